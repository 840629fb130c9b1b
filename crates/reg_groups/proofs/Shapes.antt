-- Conditions of each shape of operation on its operands, as tests of registers.
use Rattle.std.proofs.Common.{◌≡◌, ℕ, Bool, true, ◌&&◌, ◌||◌, not, ◌==◌, refl, ◌∙◌, ap}
use Rattle.std.proofs.Math.Bool.{and-true, or-true}
use Rattle.std.specs.Prelude.{[], ◌∷◌}
use Rattle.rv_model.specs.declared.instructions.source.Source.{Source}
use Rattle.rv_model.specs.declared.instructions.source.Source.TheVariants as source
use Rattle.rv_model.specs.declared.legality.Role.{Role}
use Rattle.rv_model.specs.declared.legality.Role.TheVariants.{Apart, Control, Free, Read, Write}
use Rattle.rv_model.specs.declared.legality.Shape.{Shape}
use Rattle.rv_model.specs.declared.legality.Shape.TheVariants.{Gather, GatherIndices16, Narrowing, Reduction, Single, WideReduction, WideSource, Widening}
use Rattle.rv_model.specs.declared.vector.types.VType.{VType}
use Rattle.rv_model.specs.legality.OperandShapes.{destination, first_source, group, mask, second_source, shape_operands, vector_source}
use Rattle.rv_model.specs.legality.RegisterOperands.{allows, are_legal, is_group}
use Rattle.rv_model.specs.vector.Groups.{GroupType, group_type, sew_width, single_type, wide_type}
use Rattle.reg_groups.specs.Roles.{is_apart_from_mask, is_other_group, is_narrowing_source, of_vector, is_compatible_source}
use Rattle.reg_groups.proofs.EqualWidths.{role_allows}
use Rattle.reg_groups.proofs.Pairs.{apart_compatible, equal_compatible, free_compatible, narrowing_compatible, widening_compatible}
use Rattle.reg_groups.proofs.Sources.{guarded, shape_legal, sources_legal}

same_of_vector : (from : Source) (f g : ℕ → Bool) → ((v : ℕ) → f v ≡ g v) → of_vector from f ≡ of_vector from g
same_of_vector (source.V vs1) f g h = h vs1
same_of_vector _ f g h = refl

module _ (vd vs2 : ℕ) (from : Source) (unmasked : Bool) (t : VType) where
  -- a test of each operand; the tests may assume that the destination is a group
  row : (shape : Shape) (a m : Bool) (b : ℕ → Bool)
      → (is_group (destination shape vd t) ≡ true → is_compatible_source (destination shape vd t) (first_source shape vs2 t) ≡ a)
      → (is_group (destination shape vd t) ≡ true → (vs1 : ℕ) → is_compatible_source (destination shape vd t) (vector_source shape vs1 t) ≡ b vs1)
      → (unmasked || allows (destination shape vd t) (mask Control 0)) ≡ m
      → are_legal (shape_operands shape vd vs2 from unmasked t) ≡ (is_group (destination shape vd t) && (a && (of_vector from b && m)))
  row shape a m b first second last =
      shape_legal shape vd vs2 from unmasked t
      ∙ guarded (is_group (destination shape vd t)) _ _ (λ h. rw (first h, same_of_vector from _ b (second h), last) refl)

  beside_v0 : (r : Role) (g : GroupType) → (unmasked || allows (group r vd g) (mask Control 0)) ≡ (unmasked || (not (is_apart_from_mask r) || not (vd == 0)))
  beside_v0 r g = ap (λ b. unmasked || b) (role_allows r vd g)

  pub single_legal : are_legal (shape_operands Single vd vs2 from unmasked t)
      ≡ (is_group (group Read vd (group_type t)) && (is_group (group Read vs2 (group_type t))
      && (of_vector from (λ vs1. is_group (group Read vs1 (group_type t))) && (unmasked || not (vd == 0)))))
  single_legal = row Single _ _ (λ vs1. is_group (group Read vs1 (group_type t)))
      (λ h. equal_compatible vd vs2 (group_type t)) (λ h vs1. equal_compatible vd vs1 (group_type t)) (beside_v0 Write (group_type t))

  pub widening_legal : are_legal (shape_operands Widening vd vs2 from unmasked t)
      ≡ (is_group (group Read vd (wide_type t)) && (is_other_group vd vs2 t && (of_vector from (λ vs1. is_other_group vd vs1 t) && (unmasked || not (vd == 0)))))
  widening_legal = row Widening _ _ (λ vs1. is_other_group vd vs1 t)
      (λ h. widening_compatible vd vs2 t h) (λ h vs1. widening_compatible vd vs1 t h) (beside_v0 Write (wide_type t))

  pub wide_source_legal : are_legal (shape_operands WideSource vd vs2 from unmasked t)
      ≡ (is_group (group Read vd (wide_type t)) && (is_group (group Read vs2 (wide_type t))
      && (of_vector from (λ vs1. is_other_group vd vs1 t) && (unmasked || not (vd == 0)))))
  wide_source_legal = row WideSource _ _ (λ vs1. is_other_group vd vs1 t)
      (λ h. equal_compatible vd vs2 (wide_type t)) (λ h vs1. widening_compatible vd vs1 t h) (beside_v0 Write (wide_type t))

  pub narrowing_legal : are_legal (shape_operands Narrowing vd vs2 from unmasked t)
      ≡ (is_group (group Read vd (group_type t)) && (is_narrowing_source vd vs2 t
      && (of_vector from (λ vs1. is_group (group Read vs1 (group_type t))) && (unmasked || not (vd == 0)))))
  narrowing_legal = row Narrowing _ _ (λ vs1. is_group (group Read vs1 (group_type t)))
      (λ h. narrowing_compatible vd vs2 t h) (λ h vs1. equal_compatible vd vs1 (group_type t)) (beside_v0 Write (group_type t))

  pub gather_legal : are_legal (shape_operands Gather vd vs2 from unmasked t)
      ≡ (is_group (group Read vd (group_type t)) && (is_other_group vd vs2 t && (of_vector from (λ vs1. is_other_group vd vs1 t) && (unmasked || not (vd == 0)))))
  gather_legal = row Gather _ _ (λ vs1. is_other_group vd vs1 t)
      (λ h. apart_compatible vd vs2 t h) (λ h vs1. apart_compatible vd vs1 t h) (beside_v0 Apart (group_type t))

  pub gather_by_16_bits_legal : are_legal (shape_operands GatherIndices16 vd vs2 from unmasked t)
      ≡ (is_group (group Read vd (group_type t)) && (is_other_group vd vs2 t
      && (of_vector from (λ vs1. is_compatible_source (destination GatherIndices16 vd t) (vector_source GatherIndices16 vs1 t)) && (unmasked || not (vd == 0)))))
  gather_by_16_bits_legal = row GatherIndices16 _ _ (λ vs1. is_compatible_source (destination GatherIndices16 vd t) (vector_source GatherIndices16 vs1 t))
      (λ h. apart_compatible vd vs2 t h) (λ h vs1. refl) (beside_v0 Apart (group_type t))

  -- reductions, of both widths
  pub reduction_legal : are_legal (shape_operands Reduction vd vs2 from unmasked t)
      ≡ (is_group (group Read vd (single_type (sew_width t.sew))) && (is_group (group Read vs2 (group_type t))
      && (of_vector from (λ vs1. is_group (group Read vs1 (single_type (sew_width t.sew)))) && true)))
  reduction_legal = row Reduction _ _ (λ vs1. is_group (group Read vs1 (single_type (sew_width t.sew))))
      (λ h. free_compatible (destination Reduction vd t) (first_source Reduction vs2 t) refl)
      (λ h vs1. free_compatible (destination Reduction vd t) (vector_source Reduction vs1 t) refl) (beside_v0 Free (single_type (sew_width t.sew)) ∙ or-true unmasked)

  pub wide_reduction_legal : are_legal (shape_operands WideReduction vd vs2 from unmasked t)
      ≡ (is_group (group Read vd (single_type (wide_type t).width)) && (is_group (group Read vs2 (group_type t))
      && (of_vector from (λ vs1. is_group (group Read vs1 (single_type (wide_type t).width))) && true)))
  wide_reduction_legal = row WideReduction _ _ (λ vs1. is_group (group Read vs1 (single_type (wide_type t).width)))
      (λ h. free_compatible (destination WideReduction vd t) (first_source WideReduction vs2 t) refl)
      (λ h vs1. free_compatible (destination WideReduction vd t) (vector_source WideReduction vs1 t) refl) (beside_v0 Free (single_type (wide_type t).width) ∙ or-true unmasked)

-- a move of one group
pub move_legal : (from : Source) (vd : ℕ) (t : VType)
    → are_legal (destination Single vd t ∷ second_source Single from t)
    ≡ (is_group (group Read vd (group_type t)) && of_vector from (λ vs1. is_group (group Read vs1 (group_type t))))
move_legal (source.V vs1) vd t =
    sources_legal (group Write vd (group_type t)) (group Read vs1 (group_type t) ∷ []) (tt, tt)
    ∙ ap (λ b. is_group (group Write vd (group_type t)) && b) (and-true _ ∙ equal_compatible vd vs1 (group_type t))
move_legal _ vd t = sources_legal (group Write vd (group_type t)) [] tt

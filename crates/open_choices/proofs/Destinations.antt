-- The group of a fill is the destination of its instruction, so it lies inside the registers, and its elements are those that are chosen as
-- one.
use Rattle.std.proofs.Common.{ℕ, ◌≡◌, ◌+◌, ◌*◌, ◌/◌, ◌≤◌, Bool, true, List, ◌∷◌, Option, Some, None, refl, subst, ap, ◌∙◌, arith, max}
use Rattle.std.specs.Int.{Width, w8, w16, w32, w64}
use Rattle.std.specs.Option.{option_map_or, unwrap_or}
use Rattle.std.specs.Prelude.{[], IsSomeAnd, All}
use mir.Val.{bits}
use Rattle.rv_model.specs.declared.instructions.instruction.Instr.TheVariants as instr
use Rattle.rv_model.specs.declared.instructions.operations.MaskUnaryOp.TheVariants.{Viota}
use Rattle.rv_model.specs.declared.instructions.operations.PermuteOp.{PermuteOp}
use Rattle.rv_model.specs.declared.instructions.operations.PermuteOp.TheVariants.{Vrgatherei16, Vslidedown, Vslide1down}
use Rattle.rv_model.specs.declared.instructions.operations.VectorOp.{VectorOp}
use Rattle.rv_model.specs.declared.instructions.operations.VectorOp.TheVariants.{CarryOut, Compare, Permute}
use Rattle.rv_model.specs.declared.instructions.source.Source.{Source}
use Rattle.rv_model.specs.declared.instructions.vector.VectorInstr.{VectorInstr}
use Rattle.rv_model.specs.declared.instructions.vector.VectorInstr.TheVariants.{Arith, Carry, Move, Compress, Extend, MaskUnary, ElementIndex, MoveToVector}
use Rattle.rv_model.specs.declared.legality.Content.TheVariants.{Elements}
use Rattle.rv_model.specs.declared.legality.Operand.{Operand}
use Rattle.rv_model.specs.declared.scalar.Scalar.{Scalar}
use Rattle.rv_model.specs.declared.vector.sizes.TheConstants.{VECTOR_REGISTERS, VLENB}
use Rattle.rv_model.specs.declared.vector.types.VType.{VType}
use Rattle.rv_model.specs.elements.Elements.{Body}
use Rattle.rv_model.specs.legality.Legality.{is_legal, operands}
use Rattle.rv_model.specs.legality.OperandShapes.{shape_of, shape_operands}
use Rattle.rv_model.specs.legality.RegisterOperands.{eew}
use Rattle.rv_model.specs.step.Changes.{is_destination, written_of}
use Rattle.rv_model.specs.vector.Groups.{registers, width_bytes}
use Rattle.rv_model.proofs.legality_lemmas.Bounds.{first_of}
use Rattle.rv_model.proofs.legality_lemmas.Meaning.{IsGroup, legal_groups}
use Rattle.open_choices.specs.Fills.{Fill, arith_fill, typed_fill}

-- the first operand is a fill's group, and is written
pub record IsDestination (f : Fill) (os : Option (List Operand)) : Type 0 where
  pub first : Operand
  pub rest : List Operand
  pub is : os ≡ Some (first ∷ rest)
  pub written : is_destination first.role ≡ true
  pub register : first.first ≡ f.first
  pub multiplier : first.emul ≡ f.group.emul
  pub width : first.content ≡ Elements (bits f.group.width)
  pub fields : first.fields ≡ 1

abbrev pub Destined : Option Fill → Option (List Operand) → Type 0
Destined None os = Unit {0}
Destined (Some f) os = IsDestination f os

abbrev starts : (f : Fill) (o : Operand) (rest : List Operand) → is_destination o.role ≡ true → o.first ≡ f.first → o.emul ≡ f.group.emul
    → o.content ≡ Elements (bits f.group.width) → o.fields ≡ 1 → IsDestination f (Some (o ∷ rest))
starts f o rest a b c d e =
    record { first = o; rest = rest; is = refl; written = a; register = b; multiplier = c; width = d; fields = e }

arith_destined : (op : VectorOp) (source : Source) (vd vs2 : ℕ) (vm : Bool) (b : Body) (t : VType) (x : Scalar)
    → Destined (arith_fill op source vd b t x) (Some (shape_operands (shape_of op) vd vs2 source vm t))
unfolding shape_operands
arith_destined (Compare op) source vd vs2 vm b t x = tt
arith_destined (CarryOut op) source vd vs2 vm b t x = tt
arith_destined (Permute op) source vd vs2 vm b t x = permuted op
  where
    permuted : (op : PermuteOp) → Destined (arith_fill (Permute op) source vd b t x) (Some (shape_operands (shape_of (Permute op)) vd vs2 source vm t))
    permuted Vrgatherei16 = starts _ _ _ refl refl refl refl refl
    permuted Vslidedown = starts _ _ _ refl refl refl refl refl
    permuted Vslide1down = starts _ _ _ refl refl refl refl refl
    permuted _ = starts _ _ _ refl refl refl refl refl
arith_destined _ source vd vs2 vm b t x = starts _ _ _ refl refl refl refl refl

pub destined : (i : VectorInstr) (b : Body) (t : VType) (x : Scalar) → Destined (typed_fill i b t x) (operands (instr.Vector i) (Some t))
unfolding operands shape_operands
destined (Arith arith vd vs2 vm) b t x = arith_destined arith.0 arith.1 vd vs2 vm b t x
destined (Carry carry vd vs2) b t x = starts _ _ _ refl refl refl refl refl
destined (Move from vd) b t x = starts _ _ _ refl refl refl refl refl
destined (Extend op vd vs2 vm) b t x = starts _ _ _ refl refl refl refl refl
destined (MaskUnary Viota vd vs2 vm) b t x = starts _ _ _ refl refl refl refl refl
destined (ElementIndex vd vm) b t x = starts _ _ _ refl refl refl refl refl
destined (Compress vd vs1 vs2) b t x = starts _ _ _ refl refl refl refl refl
destined (MoveToVector vd rs1) b t x = starts _ _ _ refl refl refl refl refl
destined _ b t x = tt

module _ (f : Fill) (i : VectorInstr) (t : VType) (vstart : ℕ) (legal : is_legal (instr.Vector i) (Some t) vstart ≡ true)
    (d : IsDestination f (operands (instr.Vector i) (Some t))) where
  group_is : IsGroup d.first
  group_is = first_of d.first d.rest (subst (λ os. IsSomeAnd os (All IsGroup)) d.is (legal_groups (instr.Vector i) (Some t) vstart legal))

  pub group_fits : VLENB * f.first + VLENB * registers f.group.emul ≤ VLENB * VECTOR_REGISTERS
  group_fits =
      let most : d.first.first + d.first.fields * registers d.first.emul ≤ VECTOR_REGISTERS = group_is.inside in
      let once : 1 * registers d.first.emul ≡ registers d.first.emul = omega arith in
      let same : d.first.fields * registers d.first.emul ≡ registers f.group.emul =
      ap (λ fields. fields * registers d.first.emul) d.fields ∙ once ∙ ap registers d.multiplier in
      omega (arith, most, same, d.register)

  -- what an overlay of the group needs
  pub group_most : f.group.emul ≤ 64
  group_most = subst (λ n. n ≤ 64) d.multiplier group_is.most

  pub group_inside : f.first + registers f.group.emul ≤ VECTOR_REGISTERS
  group_inside = omega (arith, group_fits)

  pub group_width : bits f.group.width ≤ 64
  group_width =
      let sized : IsGroup (record d.first { content = Elements (bits f.group.width) }) =
      subst IsGroup (ap (λ content. record d.first { content = content }) d.width) group_is in
      sized.width.1

  destination_is : written_of (d.first ∷ d.rest) ≡ Some d.first
  destination_is = search (arith, d.written)

  bytes_are : (w : Width) → max 1 (bits w / 8) ≡ width_bytes w
  bytes_are w8 = refl
  bytes_are w16 = refl
  bytes_are w32 = refl
  bytes_are w64 = refl
  bytes_are _ = refl

  pub grain_is : max 1 (option_map_or (λ o. eew o.content / 8) (written_of (unwrap_or (operands (instr.Vector i) (Some t)) [])) 1) ≡ width_bytes f.group.width
  grain_is =
      ap (λ os. max 1 (option_map_or (λ o. eew o.content / 8) (written_of (unwrap_or os [])) 1)) d.is
      ∙ ap (λ o. max 1 (option_map_or (λ o. eew o.content / 8) o 1)) destination_is
      ∙ ap (λ content. max 1 (eew content / 8)) d.width ∙ bytes_are f.group.width

-- Legality of operands of two widths, and of operands that may not overlap. The proofs evaluate the conditions on two groups for each pair
-- of registers under each vector type.
use Rattle.std.proofs.Common.{◌≡◌, ℕ, zero, suc, ◌+◌, ◌*◌, ◌/◌, ◌<◌, ◌≤◌, Bool, true, false, ◌&&◌, ◌||◌, not, nat_le, nat_lt, ◌==◌, eq-eqb, lit≤, refl, arith, ◌∙◌, ap, inl, inr}
use Rattle.std.proofs.Math.Bool.{and-true, or-false, or-true}
use Rattle.std.proofs.lemmas.Bool.{and_parts, cases_order}
use Rattle.std.specs.Prelude.{[], ◌∷◌}
use Rattle.std.specs.List.{list_all}
use mir.Val.{bits}
use Rattle.rv_model.specs.declared.instructions.operations.RegisterCount.{RegisterCount}
use Rattle.rv_model.specs.declared.legality.Operand.{Operand}
use Rattle.rv_model.specs.declared.legality.Role.{Role}
use Rattle.rv_model.specs.declared.legality.Role.TheVariants.{Apart, Control, Free, Read, Write}
use Rattle.rv_model.specs.declared.legality.Content.{Content}
use Rattle.rv_model.specs.declared.legality.Content.TheVariants.{Elements, Mask}
use Rattle.rv_model.specs.declared.vector.types.Lmul.{Lmul}
use Rattle.rv_model.specs.declared.vector.types.Lmul.TheVariants.{M1}
use Rattle.rv_model.specs.declared.vector.types.Sew.{Sew}
use Rattle.rv_model.specs.declared.vector.types.Sew.TheVariants.{E8, E64}
use Rattle.rv_model.specs.declared.vector.types.VType.{VType}
use Rattle.rv_model.specs.legality.Legality.{compress_operands, whole_move_operands}
use Rattle.rv_model.specs.legality.OperandShapes.{group, mask, v0}
use Rattle.rv_model.specs.legality.RegisterOperands.{allows, are_legal, is_group, overlaps}
use Rattle.rv_model.specs.vector.Groups.{GroupType, group_type, lmul_eighths, sew_bits, sew_width, registers, doubled, whole_type, wide_type}
use Rattle.rv_model.specs.vector.TypeNames.{lmuls, sews}
use Rattle.rv_model.proofs.legality_lemmas.Accesses.{of_lmuls, of_sews}
use Rattle.rv_model.proofs.legality_lemmas.Bounds.{first_of}
use Rattle.rv_model.proofs.legality_lemmas.Meaning.{are_legal_means, groups_are}
use Rattle.reg_groups.specs.Roles.{groups_of, may_be_compared_into, is_mask_outside, is_other_group, is_narrowing_source, is_compatible_source}
use Rattle.reg_groups.proofs.EqualWidths.{holds_v0, role_allows, some_registers}
use Rattle.reg_groups.proofs.Sources.{guarded, lone_legal, masked_legal, pair_legal, sources_legal}

-- ---- groups of twice SEW

-- they have twice the multiplier of a group of SEW
wide_emul : (s : Sew) (e : ℕ) → bits (doubled (sew_width s)) * e / sew_bits s ≡ 2 * e
wide_emul E8 e = omega arith
wide_emul _ e = omega arith

wide_group : (s : Sew) (a e f : ℕ) → e ≡ 2 * f
    → is_group (groups_of Read 1 a (bits (doubled (sew_width s))) e) ≡ (not (sew_bits s == 64) && is_group (groups_of Read 1 a 8 (2 * f)))
wide_group E64 a e f h = refl
wide_group _ a e f h = rw h refl

-- they exist where SEW is below 64 and their multiplier is at most 8
pub wide_aligned : (a : ℕ) (t : VType)
    → is_group (group Read a (wide_type t)) ≡ (not (sew_bits t.sew == 64) && is_group (groups_of Read 1 a 8 (2 * lmul_eighths t.lmul)))
wide_aligned a t = wide_group t.sew a _ (lmul_eighths t.lmul) (wide_emul t.sew (lmul_eighths t.lmul))

-- ---- a test for each pair of registers

abbrev below : ℕ → (ℕ → Bool) → Bool
below zero p = true
below (suc n) p = p n && below n p

of_below : (n : ℕ) (p : ℕ → Bool) → below n p ≡ true → (i : ℕ) → i < n → p i ≡ true
of_below zero p h i l = absurd (omega (arith, l))
of_below (suc n) p h i l = elim (cases_order i n) [
  | inl same ↦ ap p same ∙ (and_parts _ _ h).0
  | inr other ↦ elim other [
    | inl less ↦ of_below n p (and_parts _ _ h).1 i less
    | inr more ↦ absurd (omega (arith, l, more))
  ]
]

abbrev alike : Bool → Bool → Bool
alike true b = b
alike false b = not b

alike_same : (a b : Bool) → alike a b ≡ true → a ≡ b
alike_same true true h = refl
alike_same false false h = refl
alike_same _ _ h = absurd (cc)

-- the contents of a register operand, and its multiplier in eighths of a register
abbrev Kind : Type 0
Kind = Content × ℕ

abbrev operand : Role → ℕ → Kind → Operand
operand r a k = record { role = r; first = a; content = k.0; emul = k.1; fields = 1 }

-- a test holds for each vector type and each pair of registers
abbrev each : (Sew → Lmul → ℕ → ℕ → Bool) → Bool
each p = list_all (λ w. list_all (λ l. below 32 (λ a. below 32 (p w l a))) lmuls) sews

of_each : (p : Sew → Lmul → ℕ → ℕ → Bool) → each p ≡ true → (w : Sew) (l : Lmul) (a b : ℕ) → a < 32 → b < 32 → p w l a b ≡ true
of_each p h w l a b in_a in_b =
    let types = of_lmuls (λ m. below 32 (λ x. below 32 (p w m x))) (of_sews (λ v. list_all (λ m. below 32 (λ x. below 32 (p v m x))) lmuls) h w) l in
    of_below 32 (p w l a) (of_below 32 (λ x. below 32 (p w l x)) types a in_a) b in_b

-- for a destination and a source that are groups, `allows` equals a test of their first registers
abbrev is_test_of : Role → (Sew → Lmul → Kind) → (Sew → Lmul → Kind) → (Lmul → ℕ → ℕ → Bool) → Sew → Lmul → ℕ → ℕ → Bool
is_test_of r d s test w l a b =
    not (is_group (operand r a (d w l)) && is_group (operand Read b (s w l))) || alike (allows (operand r a (d w l)) (operand Read b (s w l))) (test l a b)

under_both : (g h b : Bool) → g ≡ true → h ≡ true → (not (g && h) || b) ≡ true → b ≡ true
under_both true true b p q k = k
under_both _ _ b p q k = absurd (cc)

in_file : (r : Role) (a : ℕ) (k : Kind) → is_group (operand r a k) ≡ true → a < 32
in_file r a k h =
    let legal = (are_legal_means (operand r a k ∷ [])).0 (lone_legal (operand r a k) ∙ h) in
    let inside : a + 1 * registers k.1 ≤ 32 = (first_of (operand r a k) [] (groups_are legal)).inside in
    omega (arith, inside, some_registers k.1)

pair_test_holds : (r : Role) (d s : Sew → Lmul → Kind) (test : Lmul → ℕ → ℕ → Bool) → each (is_test_of r d s test) ≡ true
    → (w : Sew) (l : Lmul) (a b : ℕ) → is_group (operand r a (d w l)) ≡ true
    → is_compatible_source (operand r a (d w l)) (operand Read b (s w l)) ≡ (is_group (operand Read b (s w l)) && test l a b)
pair_test_holds r d s test all w l a b is_destination =
    guarded (is_group (operand Read b (s w l))) _ _ (λ is_source.
    alike_same _ _ (under_both _ _ _ is_destination is_source
    (of_each (is_test_of r d s test) all w l a b (in_file r a (d w l) is_destination) (in_file Read b (s w l) is_source))))

abbrev masks : Sew → Lmul → Kind
masks w l = (Mask, 8)

abbrev narrow : Sew → Lmul → Kind
narrow w l = (Elements (sew_bits w), lmul_eighths l)

abbrev wide : Sew → Lmul → Kind
wide w l = (Elements (bits (doubled (sew_width w))), bits (doubled (sew_width w)) * lmul_eighths l / sew_bits w)

abbrev other : Lmul → ℕ → ℕ → Bool
other l a b = not (a == b)

abbrev after : (Lmul → ℕ) → Lmul → ℕ → ℕ → Bool
after emul l a b = nat_le a b || nat_le (b + registers (emul l)) a

abbrev outside : Lmul → ℕ → ℕ → Bool
outside l a b = nat_lt b a || nat_le (a + registers (lmul_eighths l)) b

-- a narrow source and a wide destination
pub widening_compatible : (vd b : ℕ) (t : VType) → is_group (group Write vd (wide_type t)) ≡ true
    → is_compatible_source (group Write vd (wide_type t)) (group Read b (group_type t)) ≡ is_other_group vd b t
widening_compatible vd b t h = pair_test_holds Write wide narrow other refl t.sew t.lmul vd b h

-- a wide source and a narrow destination
pub narrowing_compatible : (vd b : ℕ) (t : VType) → is_group (group Write vd (group_type t)) ≡ true
    → is_compatible_source (group Write vd (group_type t)) (group Read b (wide_type t)) ≡ is_narrowing_source vd b t
narrowing_compatible vd b t h = pair_test_holds Write narrow wide (after (λ l. 2 * lmul_eighths l)) refl t.sew t.lmul vd b h

-- a source and a destination that may not overlap it
pub apart_compatible : (vd b : ℕ) (t : VType) → is_group (group Apart vd (group_type t)) ≡ true
    → is_compatible_source (group Apart vd (group_type t)) (group Read b (group_type t)) ≡ is_other_group vd b t
apart_compatible vd b t h = pair_test_holds Apart narrow narrow other refl t.sew t.lmul vd b h

-- a source of a comparison
pub compare_compatible : (vd b : ℕ) (t : VType) → is_group (mask Write vd) ≡ true
    → is_compatible_source (mask Write vd) (group Read b (group_type t)) ≡ may_be_compared_into vd b t
compare_compatible vd b t h = pair_test_holds Write masks narrow (after lmul_eighths) refl t.sew t.lmul vd b h

mask_apart_compatible : (vd b : ℕ) (t : VType) → is_group (group Apart vd (group_type t)) ≡ true
    → is_compatible_source (group Apart vd (group_type t)) (mask Read b) ≡ is_mask_outside vd b t
mask_apart_compatible vd b t h = pair_test_holds Apart narrow masks outside refl t.sew t.lmul vd b h

masks_apart : (a b : ℕ) → is_group (mask Apart a) ≡ true → is_compatible_source (mask Apart a) (mask Read b) ≡ (is_group (mask Read b) && not (a == b))
masks_apart a b h = pair_test_holds Apart masks masks other refl E8 M1 a b h

-- a source with the destination's element width
pub equal_compatible : (a b : ℕ) (g : GroupType) → is_compatible_source (group Write a g) (group Read b g) ≡ is_group (group Read b g)
equal_compatible a b g = rw (eq-eqb (bits g.width), or-true (not (overlaps (group Write a g) (group Read b g)))) (and-true _)

-- a source and a destination that may overlap any operand
pub free_compatible : (d : Operand) (s : Operand) → d.role ≡ Free → is_compatible_source d s ≡ is_group s
free_compatible d s h = rw (h, or-true (not (overlaps d s))) (and-true _)

-- a mask may be written to v0, from which the instruction reads its mask
pub mask_over_v0 : (a : ℕ) → allows (mask Write a) (mask Control 0) ≡ true
mask_over_v0 a = or-true _

-- ---- conditions on the operands of instructions

-- `viota.m`, which counts active elements of a mask
pub iota_legal : (vd vs2 : ℕ) (unmasked : Bool) (t : VType)
    → are_legal (group Apart vd (group_type t) ∷ mask Read vs2 ∷ v0 unmasked)
    ≡ (is_group (group Read vd (group_type t)) && (is_mask_outside vd vs2 t && (unmasked || not (vd == 0))))
iota_legal vd vs2 unmasked t =
    pair_legal (group Apart vd (group_type t)) (mask Read vs2) unmasked refl
    ∙ guarded (is_group (group Read vd (group_type t))) _ _ (λ h. rw (mask_apart_compatible vd vs2 t h, role_allows Apart vd (group_type t)) refl)

-- an operation from a mask to a mask
pub scan_legal : (vd vs2 : ℕ) (unmasked : Bool)
    → are_legal (mask Apart vd ∷ mask Read vs2 ∷ v0 unmasked)
    ≡ (is_group (mask Read vd) && ((is_group (mask Read vs2) && not (vd == vs2)) && (unmasked || not (vd == 0))))
scan_legal vd vs2 unmasked =
    pair_legal (mask Apart vd) (mask Read vs2) unmasked refl
    ∙ guarded (is_group (mask Read vd))
    (is_compatible_source (mask Apart vd) (mask Read vs2) && (unmasked || allows (mask Apart vd) (mask Control 0)))
    ((is_group (mask Read vs2) && not (vd == vs2)) && (unmasked || not (vd == 0)))
    (λ h. rw (masks_apart vd vs2 h, ap not (holds_v0 vd 1 (lit≤ tt)))
    (ap (λ b. (is_group (mask Read vs2) && not (vd == vs2)) && (unmasked || b)) (or-false _)))

-- an operation from a mask to a scalar register
pub mask_source_legal : (vs2 : ℕ) (unmasked : Bool) → are_legal (mask Read vs2 ∷ v0 unmasked) ≡ is_group (mask Read vs2)
mask_source_legal vs2 unmasked =
    masked_legal (mask Read vs2) unmasked ∙ ap (λ b. is_group (mask Read vs2) && (unmasked || b)) (or-true _)
    ∙ ap (λ b. is_group (mask Read vs2) && b) (or-true unmasked) ∙ and-true _

mask_beside_mask : (a b : ℕ) → is_compatible_source (mask Write a) (mask Read b) ≡ is_group (mask Read b)
mask_beside_mask a b = ap (λ x. is_group (mask Read b) && x) (or-true _) ∙ and-true _

-- a logical operation on masks
pub mask_logic_legal : (vd vs1 vs2 : ℕ)
    → are_legal (mask Write vd ∷ mask Read vs2 ∷ mask Read vs1 ∷ [])
    ≡ (is_group (mask Read vd) && (is_group (mask Read vs2) && is_group (mask Read vs1)))
mask_logic_legal vd vs1 vs2 =
    sources_legal (mask Write vd) (mask Read vs2 ∷ mask Read vs1 ∷ []) (tt, (tt, tt))
    ∙ ap (λ b. is_group (mask Read vd) && b)
    (ap (λ b. b && list_all (is_compatible_source (mask Write vd)) (mask Read vs1 ∷ [])) (mask_beside_mask vd vs2)
    ∙ ap (λ b. is_group (mask Read vs2) && b) (and-true _ ∙ mask_beside_mask vd vs1))

-- `vcompress.vm`
pub compress_legal : (vd vs1 vs2 : ℕ) (t : VType)
    → are_legal (compress_operands vd vs1 vs2 t)
    ≡ (is_group (group Read vd (group_type t)) && (is_other_group vd vs2 t && is_mask_outside vd vs1 t))
compress_legal vd vs1 vs2 t =
    let d : Operand = group Apart vd (group_type t) in
    sources_legal d (group Read vs2 (group_type t) ∷ mask Read vs1 ∷ []) (tt, (tt, tt))
    ∙ guarded (is_group d) _ _ (λ h. ap (λ b. b && (is_compatible_source d (mask Read vs1) && true)) (apart_compatible vd vs2 t h)
    ∙ ap (λ b. is_other_group vd vs2 t && b) (and-true _ ∙ mask_apart_compatible vd vs1 t h))

-- a move of whole registers
pub whole_move_legal : (count : RegisterCount) (vd vs2 : ℕ) (t : VType)
    → are_legal (whole_move_operands count vd vs2 t)
    ≡ (is_group (group Read vd (whole_type t count)) && is_group (group Read vs2 (whole_type t count)))
whole_move_legal count vd vs2 t =
    sources_legal (group Write vd (whole_type t count)) (group Read vs2 (whole_type t count) ∷ []) (tt, tt)
    ∙ ap (λ b. is_group (group Read vd (whole_type t count)) && b) (and-true _ ∙ equal_compatible vd vs2 (whole_type t count))

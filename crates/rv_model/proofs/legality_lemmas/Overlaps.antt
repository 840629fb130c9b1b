-- Consequences of legality for the overlaps of a vector load: it changes neither its mask nor the indices that it still needs.
use Rattle.std.specs.Prelude.{IsTrue, Some, nat_le, nat_lt, ◌==◌}
use Rattle.std.proofs.Common.{◌≡◌, ◌∷◌, inl, inr, ℕ, ◌+◌, ◌-◌, ◌*◌, ◌/◌, ◌%◌, ◌<◌, ◌≤◌, Bool, true, false, ◌&&◌, ◌||◌, cond, refl, sym, ap, ◌∙◌, subst, arith, lit<}
use Rattle.std.proofs.Math.Nat.{add-mul, mul_comm}
use Rattle.std.proofs.lemmas.Bool.{and_parts, both_ways, cases_order, eqb-true, leb-true, ltb-true, or_cases}
use Rattle.std.proofs.lemmas.Nat.{mul-le, row_fits}
use Rattle.std.proofs.lemmas.Bool.Decides.{nat_tests}
use Rattle.rv_model.specs.declared.instructions.instruction.Instr.TheVariants as instr
use Rattle.rv_model.specs.declared.instructions.access.AccessInstr.TheVariants.{Indexed, Strided, UnitStride}
use Rattle.rv_model.specs.declared.instructions.operations.Direction.TheVariants as direction
use Rattle.rv_model.specs.declared.instructions.operations.Order.{Order}
use Rattle.rv_model.specs.declared.instructions.operations.UnitOp.TheVariants as unit
use Rattle.rv_model.specs.declared.instructions.operations.Eew.{Eew}
use Rattle.rv_model.specs.declared.legality.Content.TheVariants.{Elements}
use Rattle.rv_model.specs.declared.legality.Operand.{Operand}
use Rattle.rv_model.specs.declared.legality.Role.TheVariants.{Apart, Control, Read, Write}
use Rattle.rv_model.specs.declared.vector.sizes.TheConstants.{VLEN, VLENB}
use Rattle.rv_model.specs.declared.vector.types.Lmul.{Lmul}
use Rattle.rv_model.specs.declared.vector.types.Sew.{Sew}
use Rattle.rv_model.specs.declared.vector.types.Lmul.TheVariants.{Mf8}
use Rattle.rv_model.specs.declared.vector.types.Sew.TheVariants.{E8}
use Rattle.rv_model.specs.declared.vector.types.VType.{VType}
use Rattle.rv_model.specs.accesses.Restarts.{IsByteOf, LaterIndicesUnchanged}
use Rattle.rv_model.specs.legality.Legality.{IsLegal, indexed_role, operands}
use Rattle.rv_model.specs.legality.OperandShapes.{field_groups, group, mask, v0}
use Rattle.rv_model.specs.legality.RegisterOperands.{Overlap, may_share}
use Rattle.rv_model.specs.vector.Groups.{access_type, element_width, group_type, lmul_eighths, sew_bits, sew_width, vlmax, width_bytes, registers}
use Rattle.rv_model.proofs.legality_lemmas.Accesses.{elements_fit}
use Rattle.rv_model.proofs.legality_lemmas.Meaning.{IsGroup, MayOverlap, groups_are, may_overlap_means}
use Rattle.rv_model.proofs.legality_lemmas.Bounds.{before_end0, before_end1, emul-sew, first_of, second_of}
use Rattle.rv_model.specs.lending.GroupBounds.{emul}

-- ---- groups of VLMAX elements

-- VLMAX elements fill a group of whole registers; if the elements aren't wider than SEW, groups of SEW have whole registers
abbrev fills : Sew → Sew → Lmul → Bool
fills s sew l =
    (nat_lt (sew_bits s * lmul_eighths l / sew_bits sew) 8
    || (lmul_eighths l * VLEN / (8 * sew_bits sew) * width_bytes (sew_width s) == VLENB * registers (sew_bits s * lmul_eighths l / sew_bits sew)))
    && (nat_lt (sew_bits s * lmul_eighths l / sew_bits sew) 8
    || (nat_lt (sew_bits sew) (sew_bits s) || nat_le 8 (sew_bits sew * lmul_eighths l / sew_bits sew)))

each_fills : (s sew : Sew) (l : Lmul) → fills s sew l ≡ true
each_fills E8 E8 Mf8 = refl
each_fills _ E8 Mf8 = refl
each_fills _ _ Mf8 = refl
each_fills _ _ _ = refl

group_filled : (s : Sew) (t : VType) → 8 ≤ emul (sew_bits s) t → vlmax t * width_bytes (sew_width s) ≡ VLENB * registers (emul (sew_bits s) t)
group_filled s t some = search (arith, and_parts, each_fills, eqb-true, ltb-true, or_cases)

wider : (s : Sew) (t : VType) → 8 ≤ emul (sew_bits s) t → sew_bits s ≤ sew_bits t.sew → 8 ≤ emul (sew_bits t.sew) t
wider s t some h = search (arith, and_parts, each_fills, leb-true, ltb-true, or_cases)

pub group_fits : (s : Sew) (t : VType) → vlmax t * width_bytes (sew_width s) ≤ VLENB * registers (emul (sew_bits s) t)
group_fits s t = omega (arith, elements_fit s t (vlmax t) (omega arith), mul_comm (vlmax t) (width_bytes (sew_width s)))

-- ---- two groups

-- aligned groups of the same size that overlap start at the same register
aligned_same : (z a b : ℕ) → a % z ≡ 0 → b % z ≡ 0 → a < b + z → b < a + z → a ≡ b
aligned_same z a b p q h g =
    elim (cases_order (a / z) (b / z)) [
      | inl e ↦ let same : a / z * z ≡ b / z * z = ap (λ (n : ℕ). n * z) e in omega arith
      | inr s ↦ elim s [
        | inl l ↦ absurd (omega (arith, row_fits (a / z) z (b / z) z l (omega arith)))
        | inr l ↦ absurd (omega (arith, row_fits (b / z) z (a / z) z l (omega arith)))
      ]
    ]

-- a byte of an element of a field is in one of the registers of the fields
byte_register : (first n f z k v i b : ℕ) → f < n → i < v → v * k ≤ VLENB * z → IsByteOf (first + f * z) k i b
    → (first ≤ b / 32) × (b / 32 < first + n * z)
byte_register first n f z k v i b hf hi room h = search (arith, row_fits)

-- ---- the mask

clear : (b : Bool) (d s : Operand) (w : ℕ) → d.content ≡ Elements w → (Overlap d s → IsTrue (may_share (cond b Write Apart) Control d s)) → ¬ Overlap d s
clear b d s w e h o = search (arith, nat_tests, both_ways)

-- a masked load writes no part of v0
fields_above : (b : Bool) (d : Operand) (w : ℕ) → d.content ≡ Elements w → 1 ≤ d.fields
    → (Overlap d (mask Control 0) → IsTrue (may_share (cond b Write Apart) Control d (mask Control 0))) → 1 ≤ d.first
fields_above b d w is some h = search (arith, cases_order, registers, row_fits)

pub unit_above : (first_only vm : Bool) (w : Eew) (nf vd rs1 : ℕ) (t : VType) (vstart : ℕ)
    → IsLegal (instr.Access (UnitStride (cond first_only unit.FaultOnlyFirst unit.Load) w nf vd rs1 vm)) (Some t) vstart → vm ≡ false → 1 ≤ vd
unfolding operands
unit_above first_only true w nf vd rs1 t vstart legal e = absurd (cc)
unit_above true false w nf vd rs1 t vstart legal e =
    let d = field_groups Write (nf + 1) vd (access_type t w) in fields_above true d _ refl (omega arith) (legal.operands.pairs 0 d (lit< tt) 1 d (lit< tt))
unit_above _ false w nf vd rs1 t vstart legal e =
    let d = field_groups Write (nf + 1) vd (access_type t w) in fields_above true d _ refl (omega arith) (legal.operands.pairs 0 d (lit< tt) 1 d (lit< tt))

pub strided_above : (vm : Bool) (w : Eew) (nf vd rs1 rs2 : ℕ) (t : VType) (vstart : ℕ)
    → IsLegal (instr.Access (Strided direction.Load w nf vd rs1 rs2 vm)) (Some t) vstart → vm ≡ false → 1 ≤ vd
unfolding operands
strided_above true w nf vd rs1 rs2 t vstart legal e = absurd (cc)
strided_above false w nf vd rs1 rs2 t vstart legal e =
    let d = field_groups Write (nf + 1) vd (access_type t w) in fields_above true d _ refl (omega arith) (legal.operands.pairs 0 d (lit< tt) 1 d (lit< tt))

pub indexed_above : (vm : Bool) (order : Order) (w : Eew) (nf vd rs1 vs2 : ℕ) (t : VType) (vstart : ℕ)
    → IsLegal (instr.Access (Indexed direction.Load order w nf vd rs1 vs2 vm)) (Some t) vstart → vm ≡ false → 1 ≤ vd
unfolding operands
indexed_above true order w nf vd rs1 vs2 t vstart legal e = absurd (cc)
indexed_above false order w nf vd rs1 vs2 t vstart legal e =
    let d = field_groups (indexed_role direction.Load nf) (nf + 1) vd (group_type t) in
    fields_above (nf == 0) d _ refl (omega arith) (legal.operands.pairs 0 d (lit< tt) 2 d (lit< tt))

-- ---- the indices

-- the data and the indices of an indexed load
abbrev loaded_fields : ℕ → ℕ → VType → Operand
loaded_fields nf vd t = field_groups (indexed_role direction.Load nf) (nf + 1) vd (group_type t)

abbrev index_group : Eew → ℕ → VType → Operand
index_group w vs2 t = group Read vs2 (access_type t w)

may : (b : Bool) (d s : Operand) → (Overlap d s → IsTrue (may_share (cond b Write Apart) Read d s)) → Overlap d s → (b ≡ true) × MayOverlap d s
may b d s h o = search (arith, nat_tests, both_ways, may_overlap_means)

-- the data and the indices are valid groups; they overlap only if there is one field, and then as a destination and a source may
record IndexedOperands (w : Eew) (nf vd vs2 : ℕ) (t : VType) : Type 0 where
  fields : IsGroup (loaded_fields nf vd t)
  indices : IsGroup (index_group w vs2 t)
  overlap : Overlap (loaded_fields nf vd t) (index_group w vs2 t) → ((nf == 0) ≡ true) × MayOverlap (loaded_fields nf vd t) (index_group w vs2 t)

indexed_operands : (order : Order) (w : Eew) (nf vd rs1 vs2 : ℕ) (vm : Bool) (t : VType) (vstart : ℕ)
    → IsLegal (instr.Access (Indexed direction.Load order w nf vd rs1 vs2 vm)) (Some t) vstart → IndexedOperands w nf vd vs2 t
unfolding operands
indexed_operands order w nf vd rs1 vs2 vm t vstart legal =
    let d = loaded_fields nf vd t in
    let s = index_group w vs2 t in
    record {
      fields = first_of d (s ∷ v0 vm) (groups_are legal.operands);
      indices = second_of d s (v0 vm) (groups_are legal.operands);
      overlap = may (nf == 0) d s (legal.operands.pairs 0 d (before_end0 d (s ∷ v0 vm)) 1 d (before_end1 d s (v0 vm)));
    }

later_stay : (w : Eew) (nf vd vs2 : ℕ) (t : VType) → IndexedOperands w nf vd vs2 t
    → (f i k b : ℕ) → f ≤ nf → i < k → k < vlmax t
    → IsByteOf (vd + f * registers (lmul_eighths t.lmul)) (width_bytes (sew_width t.sew)) i b
    → ¬ IsByteOf vs2 (width_bytes (sew_width (element_width w))) k b
later_stay w nf vd vs2 t legal f i k b hf hi hk x y =
    let of_sew : emul (sew_bits t.sew) t ≡ lmul_eighths t.lmul = emul-sew t.sew (lmul_eighths t.lmul) in
    let z : ℕ = registers (lmul_eighths t.lmul) in
    let zs : ℕ = registers (emul (sew_bits (element_width w)) t) in
    let dk : ℕ = width_bytes (sew_width t.sew) in
    let sk : ℕ = width_bytes (sew_width (element_width w)) in
    let droom : (vlmax t) * dk ≤ VLENB * z = subst (λ e. (vlmax t) * dk ≤ VLENB * registers e) of_sew (group_fits t.sew t) in
    let dhas = byte_register vd (nf + 1) f z dk (vlmax t) i b (omega arith) (omega arith) droom x in
    let shas = byte_register vs2 1 0 zs sk (vlmax t) k b (omega arith) hk (group_fits (element_width w) t) (omega arith, omega arith) in
    let both = legal.overlap (b / 32, (dhas, shas)) in
    let one : nf ≡ 0 = eqb-true nf 0 both.0 in
    let only : f ≡ 0 = omega arith in
    let first : f * z ≡ 0 = ap (λ (j : ℕ). j * z) only ∙ omega arith in
    let before : i * dk + dk ≤ k * dk = row_fits i dk k dk hi (omega arith) in
    elim both.1 [
      | inl same ↦
          let sizes : z ≡ zs = ap registers (sym of_sew) ∙ ap (λ (n : ℕ). registers (emul n t)) same in
          let widths : k * dk ≡ k * sk = ap (λ (n : ℕ). k * (n / 8)) same in
          let aligned : vs2 % z ≡ 0 = ap (λ (q : ℕ). vs2 % q) sizes ∙ legal.indices.aligned in
          let together : vd ≡ vs2 = aligned_same z vd vs2 legal.fields.aligned aligned (omega arith) (omega arith) in
          omega arith
      | inr other ↦ elim other [
        | inl narrow ↦
            let less : dk ≤ sk = omega arith in
            let later : k * dk ≤ k * sk = mul-le k dk k sk (omega arith) less in
            omega arith
        | inr wide ↦
            let less : sk ≤ dk = omega arith in
            let full : (vlmax t) * dk ≡ VLENB * z =
            subst (λ e. (vlmax t) * dk ≡ VLENB * registers e) of_sew (group_filled t.sew t (wider (element_width w) t wide.1 (omega arith))) in
            let filled : (vlmax t) * sk ≡ VLENB * zs = group_filled (element_width w) t wide.1 in
            let left : (vlmax t) * sk ≡ k * sk + ((vlmax t) - k) * sk = ap (λ (j : ℕ). j * sk) (omega arith) ∙ add-mul k ((vlmax t) - k) sk in
            let over : (vlmax t) * dk ≡ k * dk + ((vlmax t) - k) * dk = ap (λ (j : ℕ). j * dk) (omega arith) ∙ add-mul k ((vlmax t) - k) dk in
            let shorter : ((vlmax t) - k) * sk ≤ ((vlmax t) - k) * dk = mul-le ((vlmax t) - k) sk ((vlmax t) - k) dk (omega arith) less in
            omega arith
      ]
    ]

pub later_indices_stay : LaterIndicesUnchanged
later_indices_stay order w nf vd rs1 vs2 vm t vstart legal f i k b hf hi hk x = search (indexed_operands, later_stay)

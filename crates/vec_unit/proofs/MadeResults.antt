-- Results that are written to a copy of the destination.
use Rattle.std.proofs.Common.{ℕ, ◌*◌, ◌<◌, ◌≡◌, ◌∙◌, List, length, Bool, true, false, cond, ◌&&◌, ◌||◌, nat_le, refl, ap, sym, min, arith, inl, inr}
use Rattle.std.proofs.lemmas.Bool.{cases_lt}
use Rattle.std.proofs.lemmas.Bool.Decides.{nat_tests}
use Rattle.std.proofs.Math.Bool.{or-false}
use Rattle.std.proofs.Math.Nat.{lt_of_mul-lt-mul_left, mul_assoc}
use Rattle.std.specs.Prelude.{not, if◌then◌else◌}
use Rattle.rv_model.specs.elements.Arithmetic.{with_results}
use Rattle.rv_model.specs.elements.Elements.{Body, in_body, in_range, is_active, is_changed, is_enabled, result_or_ones}
use Rattle.rv_model.specs.elements.Formulas.{ones}
use Rattle.rv_model.specs.lending.Writes.{Writes}
use Rattle.rv_model.specs.vector.Groups.{GroupType, width_bytes, group_of, with_group}
use Rattle.rv_model.proofs.element_lemmas.Arithmetic.{results_are}
use Rattle.rv_model.proofs.element_lemmas.Sets.{active_end}
use Rattle.rv_model.proofs.element_lemmas.Writes.{writes_same, writes_then}
use Rattle.vec_unit.specs.Agnostic.{is_agnostic}

-- ---- filling of all agnostic elements at once

from_least : (s e n f i : ℕ) → i < n → f ≡ min s e → (in_range f n i) ≡ (in_range s e i || nat_le e i)
from_least s e n f i h is = elim (cases_lt s e) [
  | inl low ↦ (let same : f ≡ s = omega arith in rw same (grind (arith, nat_tests)))
  | inr high ↦ (let same : f ≡ e = omega arith in rw same (grind (arith, nat_tests)))
]

body_from : (s e f i : ℕ) → f ≡ min s e → (in_range f e i) ≡ (in_range s e i || false)
body_from s e f i is = elim (cases_lt s e) [
  | inl low ↦ (let same : f ≡ s = omega arith in rw same (grind (arith, nat_tests)))
  | inr high ↦ (let same : f ≡ e = omega arith in rw same (grind (arith, nat_tests)))
]

same_range : (s e n f i : ℕ) (m t : Bool) → i < n → f ≡ min s e
    → ((m && in_range s e i) || (t && nat_le e i)) ≡ in_range (if m then f else e) (if t then n else e) i
same_range s e n f i true true h is = sym (from_least s e n f i h is)
same_range s e n f i true false h is = sym (body_from s e f i is)
same_range s e n f i false true h is = grind (arith, nat_tests)
same_range s e n f i false false h is = grind (arith, nat_tests)

pub agnostic_filled : (k n size : ℕ) (body : Body) (fill_masked_off fill_tail : Bool) (end low count from to ones number : ℕ) (old new : List ℕ)
    → k * n ≡ 32 → length old ≡ 32 * size → count ≡ n * size → end ≡ body.end → low ≡ min body.start body.end → number ≡ ones
    → from ≡ (if fill_masked_off then low else end) → to ≡ (if fill_tail then count else end)
    → Writes k (in_range from to) (λ i. number) old new → Writes k (is_agnostic body fill_masked_off fill_tail) (λ i. ones) old new
agnostic_filled k n size body fill_masked_off fill_tail end low count from to ones number old new e long is same low_is known from_is to_is was =
    let all : k * count ≡ length old = rw (is, ← mul_assoc k n size, e, long) refl in
    writes_same k (in_range from to) (is_agnostic body fill_masked_off fill_tail) (λ i. number) (λ i. ones) old new was
    (λ i l.
    let inside : i < count = lt_of_mul-lt-mul_left k (omega (arith, all, l)) in
    same_range body.start body.end count low i fill_masked_off fill_tail inside low_is
    ∙ ap (λ b. in_range (if fill_masked_off then low else b) (if fill_tail then count else b) i) (sym same)
    ∙ sym (ap (λ f. in_range f to i) from_is ∙ ap (λ t. in_range (if fill_masked_off then low else end) t i) to_is))
    (λ i h. sym known)

-- ---- results

-- only the active elements become results, where `known` and `result` are equal functions
pub active_written : (k : ℕ) (body : Body) (known result : ℕ → ℕ) (ones : ℕ) (old new : List ℕ) → ((i : ℕ) → i < body.end → known i ≡ result i)
    → Writes k (is_changed body false false) (result_or_ones body known ones) old new → Writes k (is_active body) result old new
active_written k body known result ones old new same was =
    writes_same k (is_changed body false false) (is_active body) (result_or_ones body known ones) result old new was
    (λ e l. sym (or-false (is_active body e)))
    (λ e h.
    let active : is_active body e ≡ true = rw (sym (or-false (is_active body e))) h in
    rw active (rw (same e (active_end body e active)) refl))

-- agnostic elements are filled before results are written to active ones
in_order : (m b l r : Bool) → ((b && l) || ((m && (b && not l)) || r)) ≡ (((m && b) || r) || (b && l))
in_order m b l r = grind (arith, nat_tests)

-- a copy of a group whose agnostic elements are filled before the results are written
pub made_results : (g : GroupType) (vd : ℕ) (body : Body) (fill_masked_off fill_tail : Bool) (result : ℕ → ℕ) (file mid new : List ℕ)
    → Writes (width_bytes g.width) (is_agnostic body fill_masked_off fill_tail) (λ i. ones g.width) (group_of file vd g.emul) mid
    → Writes (width_bytes g.width) (is_active body) result mid new
    → with_group file vd new ≡ with_results g vd body fill_masked_off fill_tail result file
made_results g vd body fill_masked_off fill_tail result file mid new filled written =
    let k : ℕ = width_bytes g.width in
    let old : List ℕ = group_of file vd g.emul in
    results_are g vd body fill_masked_off fill_tail result result file new (λ i h. refl)
    (writes_same k (λ e. is_agnostic body fill_masked_off fill_tail e || is_active body e) (is_changed body fill_masked_off fill_tail)
    (λ e. cond (is_active body e) (result e) (ones g.width)) (result_or_ones body result (ones g.width)) old new
    (writes_then k (is_agnostic body fill_masked_off fill_tail) (is_active body) (λ i. ones g.width) result old mid new filled written)
    (λ e l. in_order fill_masked_off (in_body body e) (is_enabled body e) (fill_tail && nat_le body.end e))
    (λ e h. refl))

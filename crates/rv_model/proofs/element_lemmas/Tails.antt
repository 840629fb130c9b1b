-- Tails of a load's fields that become all ones, and instructions with one result.
use Rattle.std.specs.Int.{Width, from_bool}
use Rattle.std.proofs.Common.{ℕ, ◌+◌, ◌*◌, ◌<◌, ◌≤◌, suc, ◌≡◌, List, length, Bool, true, false, cond, ◌&&◌, ◌||◌, eqb, nat_le, nat_lt, refl, sym, ap, arith, inl, inr, lt-ltb}
use Rattle.std.proofs.Math.Nat.{mul-le-mul_left}
use Rattle.std.proofs.lemmas.Bool.{cases_lt}
use Rattle.std.proofs.lemmas.Bool.Decides.{nat_tests}
use Rattle.rv_model.specs.declared.vector.policy.Policy.{Policy}
use Rattle.rv_model.specs.declared.vector.types.VType.{VType}
use Rattle.rv_model.specs.elements.Arithmetic.{fills_tail, is_ones, with_first_result, with_results}
use Rattle.rv_model.specs.vector.Groups.{GroupType, width_bytes, group_of, registers, with_group, single_type}
use Rattle.rv_model.specs.elements.Elements.{Body, in_range, is_changed, result_or_ones}
use Rattle.rv_model.specs.elements.Formulas.{ones}
use Rattle.rv_model.specs.lending.Writes.{Writes, element_zero}
use Rattle.rv_model.specs.step.MemoryStep.{tail_filled, tails_filled}
use Rattle.rv_model.proofs.element_lemmas.Widths.{bytes_positive}
use Rattle.rv_model.proofs.element_lemmas.Writes.{writes_are, writes_same, written_are}
use Rattle.rv_model.proofs.Choices.{of_bool}

-- the elements of a group of n are filled from vl on
pub tail_is_filled : (g : GroupType) (vd vl n : ℕ) (file new : List ℕ) → length (group_of file vd g.emul) ≡ width_bytes g.width * n
    → Writes (width_bytes g.width) (in_range vl n) (λ e. ones g.width) (group_of file vd g.emul) new
    → with_group file vd new ≡ tail_filled g vd vl file
tail_is_filled g vd vl n file new long filled =
    ap (λ bytes. with_group file vd bytes)
    (writes_are (width_bytes g.width) (nat_le vl) (λ e. ones g.width) (group_of file vd g.emul) new (bytes_positive g.width)
    (writes_same (width_bytes g.width) (in_range vl n) (nat_le vl) (λ e. ones g.width) (λ e. ones g.width) (group_of file vd g.emul) new filled
    (λ e h. of_bool (nat_le vl e) (λ a. a ≡ (a && nat_lt e n)) (λ is. sym (lt-ltb e n (below e (omega (arith, h, long))))) (λ is. refl)) (λ e h. refl)))
  where
    below : (e : ℕ) → width_bytes g.width * e < width_bytes g.width * n → e < n
    below e h = elim (cases_lt e n) [
      | inl low ↦ low
      | inr high ↦ (let up : width_bytes g.width * n ≤ width_bytes g.width * e = mul-le-mul_left (width_bytes g.width) high in absurd (omega arith))
    ]

-- whether element e changes, in a body with the first element alone or with no element
abbrev one_changes : (p a some : Bool) → ℕ → Bool
one_changes p a some e =
    (in_range 0 (from_bool some) e && true) || ((false && (in_range 0 (from_bool some) e && false)) || ((p && (a && some)) && nat_le (from_bool some) e))

-- An instruction with one result writes it like an instruction whose body has the first element alone or no element.
pub first_result_is : (width : Width) (vd : ℕ) (policy : Policy) (t : VType) (body : Body) (result : ℕ) (file : List ℕ)
    → with_results (single_type width) vd (element_zero body) false (fills_tail policy t body) (λ i. result) file
    ≡ with_first_result width vd body (fills_tail policy t body) result file
unfolding with_results with_first_result
first_result_is width vd policy t body result file =
    let one : Body = element_zero body in
    let group : List ℕ = group_of file vd 8 in
    let fill : Bool = fills_tail policy t body in
    ap (λ bytes. with_group file vd bytes)
    (writes_are (width_bytes width) (λ i. nat_lt body.start body.end && (eqb i 0 || fill)) (λ i. cond (eqb i 0) result (ones width)) group _ (bytes_positive width)
    (writes_same (width_bytes width) (is_changed one false fill) (λ i. nat_lt body.start body.end && (eqb i 0 || fill))
    (result_or_ones one (λ i. result) (ones width)) (λ i. cond (eqb i 0) result (ones width)) group _
    (written_are (width_bytes width) (is_changed one false fill) (result_or_ones one (λ i. result) (ones width)) group (bytes_positive width))
    (λ e h. same_set (is_ones policy) t.tail_agnostic (nat_lt body.start body.end) e)
    (λ e h. same_number (is_ones policy) t.tail_agnostic (nat_lt body.start body.end) e h)))
  where
    same_set : (p a some : Bool) (e : ℕ) → (some && (eqb e 0 || (p && (a && some)))) ≡ one_changes p a some e
    same_set true true true e = grind (arith, nat_tests)
    same_set _ true true e = grind (arith, nat_tests)
    same_set _ _ true e = grind (arith, nat_tests)
    same_set _ _ _ e = grind (arith, nat_tests)

    none : (e : ℕ) → in_range 0 0 e ≡ false
    none e = grind (arith, nat_tests)

    same_first : (e : ℕ) → eqb e 0 ≡ (in_range 0 1 e && true)
    same_first e = grind (arith, nat_tests)

    same_number : (p a some : Bool) (e : ℕ) → one_changes p a some e ≡ true
        → cond (eqb e 0) result (ones width) ≡ cond (in_range 0 (from_bool some) e && true) result (ones width)
    same_number p a true e h = ap (λ b. cond b result (ones width)) (same_first e)
    same_number true true false e h = let no : false ≡ true = rw (none e) at h in absurd (cc)
    same_number _ _ _ e h = let no : false ≡ true = rw (none e) at h in absurd (cc)

-- a loop over the fields
pub no_tail_filled : (g : GroupType) (vd vl : ℕ) (file : List ℕ) → tails_filled g vd 0 vl file ≡ file
unfolding tails_filled
no_tail_filled g vd vl file = refl

pub one_tail_more : (g : GroupType) (vd vl n : ℕ) (file : List ℕ)
    → tails_filled g vd (n + 1) vl file ≡ tail_filled g (vd + n * registers g.emul) vl (tails_filled g vd n vl file)
unfolding tails_filled
one_tail_more g vd vl n file = let next : n + 1 ≡ suc n = omega arith in rw next refl

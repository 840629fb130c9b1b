-- The lengths that a seed draws are allowed.
use Rattle.std.proofs.Common.{ℕ, ◌≡◌, ◌∙◌, ◌+◌, ◌-◌, ◌*◌, ◌/◌, ◌%◌, ◌<◌, ◌≤◌, ◌&&◌, Bool, true, false, Option, Some, None, eqb, nat_lt, if◌then◌else◌, length, refl, sym, ap, subst, arith, inl, inr}
use Rattle.std.specs.Option.{option_map_or}
use Rattle.std.proofs.lemmas.Bool.Decides.{nat_tests}
use Rattle.rv_model.specs.declared.step.step_end.StepEnd.{StepEnd}
use Rattle.rv_model.specs.declared.step.step_end.StepEnd.TheVariants.{Ran}
use Rattle.rv_model.specs.declared.vector.request.RequestedLength.{RequestedLength}
use Rattle.rv_model.specs.declared.vector.request.RequestedLength.TheVariants.{Elements}
use Rattle.rv_model.specs.declared.scalar.Scalar.{Scalar}
use Rattle.rv_model.specs.declared.vector.types.VType.{VType}
use Rattle.rv_model.specs.scalar.Registers.{with_register}
use Rattle.rv_model.specs.step.Hart.{HartState}
use Rattle.rv_model.specs.step.Step.{step}
use Rattle.rv_model.specs.vector.Groups.{Configuration, vlmax}
use Rattle.rv_model.proofs.Choices.{of_bool}
use Rattle.open_choices.specs.declared.seeds.Seed.{Seed}
use Rattle.open_choices.specs.OpenStep.{IsOpenLength, asked_by, instr_at, is_first_only}
use Rattle.open_choices.specs.Seeds.{chooses, chosen_length, chosen_trim, drawn_bits, drawn_length, drawn_trim, first_only_at, left_at, left_by}
use Rattle.open_choices.proofs.OpenSteps.{between}

-- a remainder is below the divisor
below : (n k : ℕ) → 0 < k → n % k < k
below n k h = omega (arith, h)

pub length_inside : (seed avl most : ℕ) → most < avl → avl < 2 * most → (avl ≤ 2 * drawn_length seed avl most) × (drawn_length seed avl most ≤ most)
length_inside seed avl most above under =
    let drawn : ℕ = drawn_bits seed avl (512 + most) % (most - (avl + 1) / 2 + 1) in
    let small : drawn < most - (avl + 1) / 2 + 1 = below (drawn_bits seed avl (512 + most)) (most - (avl + 1) / 2 + 1) (omega arith) in
    by_seed (eqb seed 1) (eqb (seed % 2) 0) drawn small
  where
    by_seed : (one even : Bool) (drawn : ℕ) → drawn < most - (avl + 1) / 2 + 1
        → (avl ≤ 2 * (if one then (avl + 1) / 2 else if even then (avl + 1) / 2 + drawn else most - drawn)) × ((if one then (avl + 1) / 2 else if even then (avl + 1) / 2 + drawn else most - drawn) ≤ most)
    by_seed true even drawn small = (omega (arith, above, under), omega (arith, above, under))
    by_seed false true drawn small = (omega (arith, above, under, small), omega (arith, above, under, small))
    by_seed false false drawn small = (omega (arith, above, under, small), omega (arith, above, under, small))

pub trim_inside : (seed number vl : ℕ) → 1 < vl → (1 ≤ drawn_trim seed number vl) × (drawn_trim seed number vl ≤ vl)
trim_inside seed number vl some =
    let word : ℕ = drawn_bits seed number 256 in
    by_seed (eqb seed 1) (eqb (word % 2) (seed % 2)) (eqb (word / 2 % 4) 0) (eqb (word / 2 % 4) 1) (word / 8 % (vl - 1)) (below (word / 8) (vl - 1) (omega (arith, some)))
  where
    by_seed : (one same least most : Bool) (drawn : ℕ) → drawn < vl - 1
        → (1 ≤ (if one then 1 else if same then vl else if least then 1 else if most then vl - 1 else 1 + drawn))
        × ((if one then 1 else if same then vl else if least then 1 else if most then vl - 1 else 1 + drawn) ≤ vl)
    by_seed true same least most drawn small = (omega arith, omega (arith, some))
    by_seed false true least most drawn small = (omega (arith, some), omega arith)
    by_seed false false true most drawn small = (omega arith, omega (arith, some))
    by_seed false false false true drawn small = (omega (arith, some), omega (arith, some))
    by_seed false false false false drawn small = (omega arith, omega (arith, some, small))

and_first : (a b : Bool) → (a && b) ≡ true → a ≡ true
and_first true b h = refl
and_first false b h = search (arith, nat_tests)

and_second : (a b : Bool) → (a && b) ≡ true → b ≡ true
and_second true b h = h
and_second false b h = search (arith, nat_tests)

less : (a b : ℕ) → nat_lt a b ≡ true → a < b
less a b h = search (arith, nat_tests)

same : (a b : ℕ) → eqb a b ≡ true → a ≡ b
same a b h = search (arith, nat_tests)

module _ (c : Seed) (number : ℕ) (s : HartState) where
  abbrev new : Configuration
  new = (step 256 s).state.vector.conf

  abbrev most : ℕ
  most = option_map_or vlmax new.vtype 0

  -- a vset instruction
  of_length : (rd : ℕ) (length : RequestedLength) → asked_by (instr_at s) s ≡ Some (rd, length) → IsOpenLength s (chosen_length c number length most new.vl)
  of_length rd (Elements avl) asked =
      of_bool ((c.kinds.length && chooses c number) && (nat_lt most avl && nat_lt avl (2 * most)))
      (λ b. IsOpenLength s (if b then drawn_length c.seed avl most else new.vl))
      (λ may.
      let inside = and_second (c.kinds.length && chooses c number) (nat_lt most avl && nat_lt avl (2 * most)) may in
      let above : most < avl = less most avl (and_first (nat_lt most avl) (nat_lt avl (2 * most)) inside) in
      let under : avl < 2 * most = less avl (2 * most) (and_second (nat_lt most avl) (nat_lt avl (2 * most)) inside) in
      inr (inr (between (asked_by (instr_at s) s) rd most (drawn_length c.seed avl most) (Elements avl) asked ((above, under), length_inside c.seed avl most above under))))
      (λ no. inl refl)
  of_length rd _ asked = inl refl

  first_only : (b : Bool) (vstart : ℕ) → (if b then Some s.vector.vstart else None) ≡ Some vstart → (b ≡ true) × (s.vector.vstart ≡ vstart)
  first_only true vstart h = (refl, search (arith, nat_tests))
  first_only false vstart h = search (arith, nat_tests)

  -- a fault-only-first load
  of_trim : (vstart : ℕ) → first_only_at (instr_at s) s ≡ Some vstart → IsOpenLength s (chosen_trim c number vstart new.vl)
  of_trim vstart first =
      of_bool ((c.kinds.trim && chooses c number) && (eqb vstart 0 && nat_lt 1 new.vl))
      (λ b. IsOpenLength s (if b then drawn_trim c.seed number new.vl else new.vl))
      (λ may.
      let inside = and_second (c.kinds.trim && chooses c number) (eqb vstart 0 && nat_lt 1 new.vl) may in
      let is = first_only (is_first_only (instr_at s)) vstart first in
      let some : 1 < new.vl = less 1 new.vl (and_second (eqb vstart 0) (nat_lt 1 new.vl) inside) in
      inr (inl (is.0, (is.1 ∙ same vstart 0 (and_first (eqb vstart 0) (nat_lt 1 new.vl) inside), trim_inside c.seed number new.vl some))))
      (λ no. inl refl)

  by_kind : (asked : Option (ℕ × RequestedLength)) (first : Option ℕ) → asked_by (instr_at s) s ≡ asked → first_only_at (instr_at s) s ≡ first
      → IsOpenLength s (left_by c number asked first new)
  by_kind (Some (rd, length)) first asked is = of_length rd length asked
  by_kind None (Some vstart) asked is = of_trim vstart is
  by_kind None None asked is = inl refl

  pub left_open : (end : StepEnd) → IsOpenLength s (left_at end c number s new)
  left_open Ran = by_kind (asked_by (instr_at s) s) (first_only_at (instr_at s) s) refl refl
  left_open _ = inl refl

-- ---- the length that a machine leaves

no_most : (c : Seed) (number : ℕ) (length : RequestedLength) (vl : ℕ) → chosen_length c number length 0 vl ≡ vl
no_most c number (Elements avl) vl = ap (λ b. if b then drawn_length c.seed avl 0 else vl) (never (c.kinds.length && chooses c number) (nat_lt 0 avl) (nat_lt avl 0) (none avl))
  where
    none : (n : ℕ) → nat_lt n 0 ≡ false
    none n = grind (arith, nat_tests)

    never : (a b d : Bool) → d ≡ false → (a && (b && d)) ≡ false
    never true true d h = h
    never true false d h = refl
    never false b d h = refl
no_most c number _ vl = refl

module _ (c : Seed) (number : ℕ) (length : RequestedLength) (conf : Configuration) where
  abbrev left_of : Configuration
  left_of = record conf { vl = chosen_length c number length (option_map_or vlmax conf.vtype 0) conf.vl }

  pub length_untyped : conf.vtype ≡ None → conf ≡ left_of
  length_untyped none =
      ap (λ v. record conf { vl = v }) (sym (ap (λ t. chosen_length c number length (option_map_or vlmax t 0) conf.vl) none ∙ no_most c number length conf.vl))

  module _ (t : VType) (some : conf.vtype ≡ Some t) (left most vl : ℕ) (is : left ≡ chosen_length c number length most vl) (most_is : most ≡ vlmax t) (vl_is : vl ≡ conf.vl) where
    left_is : left ≡ chosen_length c number length (option_map_or vlmax conf.vtype 0) conf.vl
    left_is =
        is ∙ ap (λ m. chosen_length c number length m vl) most_is ∙ ap (λ v. chosen_length c number length (vlmax t) v) vl_is
        ∙ ap (λ o. chosen_length c number length (option_map_or vlmax o 0) conf.vl) (sym some)

    pub length_kept : left ≡ vl → conf ≡ left_of
    length_kept same_vl = ap (λ v. record conf { vl = v }) (sym vl_is ∙ sym same_vl ∙ left_is)

    pub length_set : (after : Configuration) → after ≡ record { vl = left; vtype = Some t } → after ≡ left_of
    length_set after made = made ∙ ap (λ v. record { vl = v; vtype = Some t }) left_is ∙ ap (λ o. record left_of { vtype = o }) (sym some)

pub register_set : (rd left vl now : ℕ) (old after : Scalar) → (left ≡ vl → ⊥) → after ≡ with_register rd left old → now ≡ left
    → after ≡ (if eqb now vl then old else with_register rd now old)
register_set rd left vl now old after other made is =
    subst (λ v. after ≡ (if eqb v vl then old else with_register rd v old)) (sym is)
    (made ∙ ap (λ b. if b then old else with_register rd left old) (sym (differs left vl other)))
  where
    differs : (a b : ℕ) → (a ≡ b → ⊥) → eqb a b ≡ false
    differs a b h = grind (arith, nat_tests)

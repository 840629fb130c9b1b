-- Packed elements, selected by the bits of a number.
use Rattle.std.proofs.Common.{ℕ, zero, suc, ◌+◌, ◌-◌, ◌*◌, ◌/◌, ◌%◌, ◌^◌, ◌<◌, ◌≡◌, ◌==◌, ◌&&◌, List, Bool, true, false, not, nat_lt, refl, sym, ap, subst, ◌∙◌, arith, inl, inr, lt-ltb, le-ltb, pow-add, w64}
use Rattle.std.proofs.Math.Nat.{div-div-eq-div-mul, mod-lt}
use Rattle.std.proofs.lemmas.Bool.{ltb-true, cases_lt}
use Rattle.std.proofs.lemmas.Nat.{pow_pos}
use Rattle.std.proofs.lemmas.Nat.Bits.{bit_at-trailing_zeros, bit_at_above}
use Rattle.std.specs.Int.{trailing_zeros}
use Rattle.rv_model.specs.elements.Elements.{mask_bit}
use Rattle.rv_model.proofs.element_lemmas.Packed.{PackedTo, pack_passed}
use Rattle.lane_arith.proofs.MaskBits.{low_bit}

module _ (select : List ℕ) where
  -- a number whose bit i says whether element next + i is below `to` and selected
  abbrev pub Shows : ℕ → ℕ → ℕ → Type 0
  Shows set next to = (i : ℕ) → (set / 2 ^ i % 2 == 0) ≡ not (nat_lt (next + i) to && mask_bit select (next + i))

  -- the low bits of a mask's word are such a number
  pub shows_first : (m from to : ℕ) → ((i : ℕ) → i < to - from → (m / 2 ^ i % 2 == 0) ≡ not (mask_bit select (from + i)))
      → Shows (m % 2 ^ (to - from)) from to
  shows_first m from to known i = elim (cases_lt i (to - from)) [
    | inl low ↦ rw (lt-ltb (from + i) to (omega (arith, low)), low_bit m (to - from) i low) (known i low)
    | inr high ↦
        let none : m % 2 ^ (to - from) / 2 ^ i % 2 ≡ 0 = bit_at_above (m % 2 ^ (to - from)) (to - from) i (mod-lt m (pow_pos (to - from))) high in
        rw (none, le-ltb (from + i) to (omega (arith, high))) refl
  ]

  -- shifting out the bits up to bit t gives such a number for the elements after it
  pub shows_next : (set next to t : ℕ) → Shows set next to → Shows (set / 2 ^ t / 2) (next + t + 1) to
  shows_next set next to t known i =
      let place : next + (t + 1 + i) ≡ next + t + 1 + i = omega arith in
      let power : 2 ^ t * 2 * 2 ^ i ≡ 2 ^ (t + 1 + i) = ap (λ x. x * 2 ^ i) (sym (pow-add 2 t 1)) ∙ sym (pow-add 2 (t + 1) i) in
      let shifted : set / 2 ^ t / 2 / 2 ^ i ≡ set / 2 ^ (t + 1 + i) =
      ap (λ x. x / 2 ^ i) (div-div-eq-div-mul set (2 ^ t) 2) ∙ div-div-eq-div-mul set (2 ^ t * 2) (2 ^ i) ∙ ap (λ x. set / x) power in
      ap (λ x. x % 2 == 0) shifted ∙ known (t + 1 + i) ∙ ap (λ x. not (nat_lt x to && mask_bit select x)) place

  -- the meaning of a set bit
  one_is : (x : ℕ) (a b : Bool) → x ≡ 1 → (x == 0) ≡ not (a && b) → (a ≡ true) × (b ≡ true)
  one_is x true true one known = (refl, refl)
  one_is x _ _ one known = let off = rw one at known in absurd (cc)

  none_is : (x : ℕ) (a b : Bool) → x ≡ 0 → a ≡ true → (x == 0) ≡ not (a && b) → b ≡ false
  none_is x true false none is known = refl
  none_is x true true none is known = let on = rw none at known in absurd (cc)
  none_is x false b none is known = absurd (cc)

  -- the lowest set bit is the first selected element
  pub lowest : (set next to : ℕ) → 0 < set → set < 2 ^ 64 → Shows set next to
      → (next + trailing_zeros w64 set < to) × (mask_bit select (next + trailing_zeros w64 set) ≡ true)
      × ((i : ℕ) → i < trailing_zeros w64 set → mask_bit select (next + i) ≡ false)
  lowest set next to some few known =
      let t : ℕ = trailing_zeros w64 set in
      let first = bit_at-trailing_zeros w64 set some few in
      let is = one_is (set / 2 ^ t % 2) (nat_lt (next + t) to) (mask_bit select (next + t)) first.1 (known t) in
      let inside : next + t < to = ltb-true (next + t) to is.0 in (
        inside,
        is.1,
        λ i h. none_is (set / 2 ^ i % 2) (nat_lt (next + i) to) (mask_bit select (next + i)) (first.2 i h)
            (lt-ltb (next + i) to (omega (arith, h, inside))) (known i),
      )

  -- if the number is 0, no element is selected
  pub none_left : (set next to : ℕ) → set ≡ 0 → Shows set next to → (i : ℕ) → i < to - next → mask_bit select (next + i) ≡ false
  none_left set next to empty known i h =
      let none : set / 2 ^ i % 2 ≡ 0 = rw empty (bit_at_above 0 0 i (omega arith) (omega arith)) in
      none_is (set / 2 ^ i % 2) (nat_lt (next + i) to) (mask_bit select (next + i)) none (lt-ltb (next + i) to (omega (arith, h))) (known i)

  -- t elements that aren't selected don't change the packed elements
  pub passed_many : (element : ℕ → ℕ) (k next t count : ℕ) (old mid : List ℕ) → ((i : ℕ) → i < t → mask_bit select (next + i) ≡ false)
      → PackedTo select element k next count old mid → PackedTo select element k (next + t) count old mid
  passed_many element k next zero count old mid none was =
      let here : next ≡ next + 0 = omega arith in
      subst (λ n. PackedTo select element k n count old mid) here was
  passed_many element k next (suc t) count old mid none was =
      let place : next + t + 1 ≡ next + suc t = omega arith in
      subst (λ n. PackedTo select element k n count old mid) place
      (pack_passed select element k (next + t) count old mid (none t (omega arith))
      (passed_many element k next t count old mid (λ i h. none i (omega (arith, h))) was))

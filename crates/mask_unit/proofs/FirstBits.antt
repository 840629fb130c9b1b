-- The first index that satisfies a condition, searched in 32-bit words.
use Rattle.std.proofs.Common.{ℕ, zero, suc, ◌+◌, ◌-◌, ◌*◌, ◌/◌, ◌%◌, ◌^◌, ◌<◌, ◌≡◌, ◌==◌, Bool, true, false, not, Some, None, refl, sym, ap, ◌∙◌, arith, inl, inr, w64}
use Rattle.std.proofs.lemmas.Bool.{cases_lt}
use Rattle.std.proofs.lemmas.Nat.Bits.{bit_at-trailing_zeros, bit_at-zero, bit_at_above}
use Rattle.std.specs.Int.{trailing_zeros}
use Rattle.std.specs.List.{find, range_with_len}

-- the first index in the range that starts at `from`
found_from : (p : ℕ → Bool) (from n j : ℕ) → j < n → p (from + j) ≡ true → ((i : ℕ) → i < j → p (from + i) ≡ false)
    → find p (range_with_len from n) ≡ Some (from + j)
found_from p from zero j h is before = absurd (omega (arith, h))
found_from p from (suc n) zero h is before =
    let here : from + 0 ≡ from = omega arith in
    let first : p from ≡ true = ap p (sym here) ∙ is in
    rw (first, here) refl
found_from p from (suc n) (suc j) h is before =
    let here : from + 0 ≡ from = omega arith in
    let next : from + suc j ≡ (from + 1) + j = omega arith in
    let first : p from ≡ false = ap p (sym here) ∙ before 0 (omega arith) in
    rw (first, next) (found_from p ((from + 1)) n j (omega (arith, h)) (ap p (sym next) ∙ is) (λ i l.
    let place : (from + 1) + i ≡ from + suc i = omega arith in ap p place ∙ before (suc i) (omega (arith, l))))

pub first_found : (p : ℕ → Bool) (n j : ℕ) → j < n → p j ≡ true → ((i : ℕ) → i < j → p i ≡ false) → find p (range_with_len 0 n) ≡ Some j
first_found p n j h is before =
    let at : (i : ℕ) → 0 + i ≡ i = λ i. omega arith in
    found_from p 0 n j h (ap p (at j) ∙ is) (λ i l. ap p (at i) ∙ before i l) ∙ ap Some (at j)

none_from : (p : ℕ → Bool) (from n : ℕ) → ((i : ℕ) → i < n → p (from + i) ≡ false) → find p (range_with_len from n) ≡ None
none_from p from zero fails = refl
none_from p from (suc n) fails =
    let here : from + 0 ≡ from = omega arith in
    let first : p from ≡ false = ap p (sym here) ∙ fails 0 (omega arith) in
    rw first (none_from p ((from + 1)) n (λ i l.
    let place : (from + 1) + i ≡ from + suc i = omega arith in ap p place ∙ fails (suc i) (omega (arith, l))))

pub none_found : (p : ℕ → Bool) (n : ℕ) → ((i : ℕ) → i < n → p i ≡ false) → find p (range_with_len 0 n) ≡ None
none_found p n fails = none_from p 0 n (λ i l. let at : 0 + i ≡ i = omega arith in ap p at ∙ fails i l)

-- the meaning of a set bit
known_true : (x : ℕ) (b : Bool) → x ≡ 1 → (x == 0) ≡ not b → b ≡ true
known_true x true one known = refl
known_true x false one known = let not_none = rw one at known in absurd (cc)

known_false : (x : ℕ) (b : Bool) → x ≡ 0 → (x == 0) ≡ not b → b ≡ false
known_false x false none known = refl
known_false x true none known = let some = rw none at known in absurd (cc)

-- bit i of a word says whether the condition holds for index 32 * w + i
module _ (p : ℕ → Bool) (w set : ℕ) (known : (i : ℕ) → i < 32 → (set / 2 ^ i % 2 == 0) ≡ not (p (32 * w + i))) where
  -- if the word is 0, no index of the word satisfies the condition
  pub none_in_word : set ≡ 0 → ((i : ℕ) → i < 32 * w → p i ≡ false) → (i : ℕ) → i < 32 * (w + 1) → p i ≡ false
  none_in_word empty before i h = elim (cases_lt i (32 * w)) [
    | inl low ↦ before i low
    | inr high ↦
        let at : 32 * w + (i - 32 * w) ≡ i = omega (arith, high) in
        ap p (sym at) ∙ known_false (set / 2 ^ (i - 32 * w) % 2) (p (32 * w + (i - 32 * w)))
        (rw empty (bit_at-zero (i - 32 * w))) (known (i - 32 * w) (omega (arith, h, high)))
  ]

  -- the lowest set bit is the first index that satisfies the condition
  pub first_in_word : 0 < set → set < 2 ^ 32 → ((i : ℕ) → i < 32 * w → p i ≡ false)
      → (p (32 * w + trailing_zeros w64 set) ≡ true) × ((i : ℕ) → i < 32 * w + trailing_zeros w64 set → p i ≡ false)
  first_in_word some few before =
      let lowest = bit_at-trailing_zeros w64 set some (omega (arith, few)) in
      let t : ℕ = trailing_zeros w64 set in
      let inside : t < 32 = below_top t lowest.1 in (
        known_true (set / 2 ^ t % 2) (p (32 * w + t)) lowest.1 (known t inside),
        λ i h. elim (cases_lt i (32 * w)) [
          | inl low ↦ before i low
          | inr high ↦
              let at : 32 * w + (i - 32 * w) ≡ i = omega (arith, high) in
              ap p (sym at) ∙ known_false (set / 2 ^ (i - 32 * w) % 2) (p (32 * w + (i - 32 * w)))
              (lowest.2 (i - 32 * w) (omega (arith, h, high))) (known (i - 32 * w) (omega (arith, h, high, inside)))
        ],
      )
    where
      below_top : (t : ℕ) → set / 2 ^ t % 2 ≡ 1 → t < 32
      below_top t one = elim (cases_lt t 32) [
        | inl low ↦ low
        | inr high ↦ absurd (let none = bit_at_above set 32 t few high in omega (arith, none, one))
      ]

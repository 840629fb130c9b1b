-- The number of set bits of a mask.
use Rattle.std.proofs.Common.{◌≡◌, ℕ, zero, suc, ◌+◌, ◌-◌, ◌*◌, ◌/◌, ◌%◌, ◌^◌, ◌<◌, ◌≤◌, ◌==◌, Bool, true, false, Fits, List, [], ◌∷◌, bit_and, get_or, length, map, refl, ap, ◌∙◌, sym, arith, inl, inr, mod-eq_of_lt, zero-add}
use Rattle.std.proofs.lemmas.Bool.{cases_lt}
use Rattle.std.proofs.lemmas.Simd.{get_or-put_chunk_at, get_or-put_chunk_below}
use Rattle.std.proofs.lemmas.Bool.Decides.{nat_tests}
use Rattle.std.proofs.lemmas.Nat.{and_mask, mod-pow-add, ones-le, ones_cat, pow_pos}
use Rattle.std.proofs.lemmas.Nat.Bits.{bit_at-lt}
use Rattle.std.proofs.Math.Nat.{mod-lt}
use Rattle.std.specs.Int.{from_bool, w8, w16}
use Rattle.std.specs.Int.RustNames.{count_ones}
use Rattle.std.specs.List.{filter, range_with_len}
use lib.Lanes.{Each1, fold_l, put_chunk, sum_l}
use Rattle.rv_model.specs.elements.Elements.{mask_bit}
use Rattle.rv_model.proofs.element_lemmas.Ranges.{count_more, count_most}

-- one more bit
ones_more : (x m : ℕ) → count_ones (x % 2 ^ (m + 1)) ≡ count_ones (x % 2 ^ m) + count_ones (x / 2 ^ m % 2)
ones_more x m =
    let turn : m + 1 ≡ 1 + m = omega arith in
    ap (λ k. count_ones (x % 2 ^ k)) turn ∙ ap count_ones (mod-pow-add x 1 m) ∙ ones_cat m (x / 2 ^ m % 2) (x % 2 ^ m) (mod-lt x (pow_pos m))
    ∙ omega arith

one_bit : (b : ℕ) (t : Bool) → b < 2 → (b == 1) ≡ t → count_ones b ≡ from_bool t
unfolding count_ones
one_bit zero true h e = absurd (grind (arith, nat_tests))
one_bit zero false h e = refl
one_bit (suc zero) true h e = refl
one_bit (suc zero) false h e = absurd (grind (arith, nat_tests))
one_bit (suc (suc b)) t h e = absurd (omega (arith, h))

-- the number of indices below n that satisfy a condition
abbrev pub passing : (ℕ → Bool) → ℕ → ℕ
passing test n = length (filter test (range_with_len 0 n))

-- a number whose bit i says whether the condition holds for index from + i
pub ones_counted : (test : ℕ → Bool) (x from n m : ℕ) → m ≤ n → ((i : ℕ) → i < n → (x / 2 ^ i % 2 == 1) ≡ test (from + i))
    → passing test from + count_ones (x % 2 ^ m) ≡ passing test (from + m)
unfolding count_ones
ones_counted test x from n zero h known =
    let none : x % 2 ^ 0 ≡ 0 = omega arith in
    let here : from + 0 ≡ from = omega arith in
    rw (none, here) (omega arith)
ones_counted test x from n (suc m) h known =
    let less : m < n = omega (arith, h) in
    let was = ones_counted test x from n m (omega (arith, h)) known in
    let next : suc m ≡ m + 1 = omega arith in
    let place : from + (m + 1) ≡ from + m + 1 = omega arith in
    let bit : count_ones (x / 2 ^ m % 2) ≡ from_bool (test (from + m)) = one_bit (x / 2 ^ m % 2) (test (from + m)) (bit_at-lt x m) (known m less) in
    let more : passing test (from + m + 1) ≡ passing test (from + m) + from_bool (test (from + m)) = count_more test (from + m) in
    rw (next, place) (omega (arith, ones_more x m, was, bit, more))

-- bytes whose bit i says whether the condition holds for index from + i
pub bytes_counted : (test : ℕ → Bool) (xs : List ℕ) (from : ℕ) → Each1 (Fits w8) xs → ((i : ℕ) → i < 8 * length xs → mask_bit xs i ≡ test (from + i))
    → passing test from + sum_l (map count_ones xs) ≡ passing test (from + 8 * length xs)
bytes_counted test [] from f known = let here : from + 8 * 0 ≡ from = omega arith in rw here (omega arith)
bytes_counted test (x ∷ xs) from f known =
    let low : x % 2 ^ 8 ≡ x = mod-eq_of_lt f.0.fits in
    let all : 8 ≤ 8 = omega arith in
    let first : passing test from + count_ones x ≡ passing test (from + 8) =
    ap (λ y. passing test from + count_ones y) (sym low)
    ∙ ones_counted test x from 8 8 all (λ i h.
    let byte : i / 8 ≡ 0 = omega (arith, h) in
    let bit : i % 8 ≡ i = omega (arith, h) in
    let inside : i < 8 * length (x ∷ xs) = omega (arith, h) in
    let one = known i inside in
    rw (byte, bit) at one) in
    let rest : passing test (from + 8) + sum_l (map count_ones xs) ≡ passing test (from + 8 + 8 * length xs) =
    bytes_counted test xs (from + 8) f.1 (λ i h.
    let byte : (8 + i) / 8 ≡ suc (i / 8) = omega arith in
    let bit : (8 + i) % 8 ≡ i % 8 = omega arith in
    let place : from + (8 + i) ≡ from + 8 + i = omega arith in
    let inside : 8 + i < 8 * length (x ∷ xs) = omega (arith, h) in
    let one = known (8 + i) inside in
    rw (byte, bit, place) at one) in
    let end : from + 8 + 8 * length xs ≡ from + 8 * suc (length xs) = omega arith in
    omega (arith, first, rest, ap (passing test) end)

-- the number of set bits below each of the 8 bits of a byte
lower_count : (x n j : ℕ) → n + 8 ≤ 256 → j < 8 → (n + count_ones (bit_and x (2 ^ j - 1))) % 256 ≡ n + count_ones (x % 2 ^ j)
lower_count x n j few l =
    let most : count_ones (x % 2 ^ j) ≤ j = ones-le j (x % 2 ^ j) (mod-lt x (pow_pos j)) in
    rw (and_mask x j) (mod-eq_of_lt (omega (arith, few, l, most)))

pub lower_counted : (x n i : ℕ) → n + 8 ≤ 256 → i < 8
    → get_or ((n + count_ones (bit_and x 0)) % 256 ∷ (n + count_ones (bit_and x 1)) % 256 ∷ (n + count_ones (bit_and x 3)) % 256
    ∷ (n + count_ones (bit_and x 7)) % 256 ∷ (n + count_ones (bit_and x 15)) % 256 ∷ (n + count_ones (bit_and x 31)) % 256
    ∷ (n + count_ones (bit_and x 63)) % 256 ∷ (n + count_ones (bit_and x 127)) % 256 ∷ []) i 0 ≡ n + count_ones (x % 2 ^ i)
lower_counted x n (suc (suc (suc (suc (suc (suc (suc (suc j)))))))) few l = absurd (omega (arith, l))
lower_counted x n i few l = lower_count x n i few l

-- the number of set bits of each byte, in lanes of 8 and of 16 bits
pub ones_fit : (xs : List ℕ) → Each1 (Fits w8) xs → Each1 (Fits w8) (map count_ones xs)
ones_fit [] f = tt
ones_fit (x ∷ xs) f = (record { fits = omega (arith, ones-le 8 x f.0.fits) }, ones_fit xs f.1)

pub ones_fit_16 : (xs : List ℕ) → Each1 (Fits w8) xs → Each1 (Fits w16) (map (λ x. x) (map count_ones xs))
ones_fit_16 [] f = tt
ones_fit_16 (x ∷ xs) f = (record { fits = omega (arith, ones-le 8 x f.0.fits) }, ones_fit_16 xs f.1)

-- the sum of these numbers, which doesn't overflow 16 bits
sum_in_16 : (xs : List ℕ) (a : ℕ) → a + sum_l (map count_ones xs) < 2 ^ 16
    → fold_l (λ s x. (s + x) % 2 ^ 16) a (map (λ x. x) (map (λ x. x) (map count_ones xs))) ≡ a + sum_l (map count_ones xs)
sum_in_16 [] a h = omega arith
sum_in_16 (x ∷ xs) a h =
    let here : (a + count_ones x) % 2 ^ 16 ≡ a + count_ones x = mod-eq_of_lt (omega (arith, h)) in
    ap (λ s. fold_l (λ s x. (s + x) % 2 ^ 16) s (map (λ x. x) (map (λ x. x) (map count_ones xs)))) here ∙ sum_in_16 xs (a + count_ones x) (omega (arith, h)) ∙ omega arith

-- the sum is the number of indices that satisfy the condition
pub all_counted : (test : ℕ → Bool) (xs : List ℕ) (n : ℕ) → n ≡ 8 * length xs → n < 2 ^ 16 → Each1 (Fits w8) xs → ((i : ℕ) → i < n → mask_bit xs i ≡ test i)
    → fold_l (λ s x. (s + x) % 2 ^ 16) 0 (map (λ x. x) (map (λ x. x) (map count_ones xs))) ≡ passing test n
all_counted test xs n is few f known =
    let known_on : passing test 0 + sum_l (map count_ones xs) ≡ passing test (0 + 8 * length xs) =
    bytes_counted test xs 0 f (λ i h. known i (omega (arith, h, is)) ∙ ap test (sym (zero-add i))) in
    let end : 0 + 8 * length xs ≡ n = omega (arith, is) in
    let none : passing test 0 ≡ 0 = refl in
    let sum : sum_l (map count_ones xs) ≡ passing test n = omega (arith, known_on, none, ap (passing test) end) in
    let most : passing test n ≤ n = count_most test n in
    sum_in_16 xs 0 (omega (arith, sum, most, few)) ∙ zero-add (sum_l (map count_ones xs)) ∙ sum

-- equal conditions
pub passing_same : (p q : ℕ → Bool) (n : ℕ) → ((i : ℕ) → i < n → p i ≡ q i) → passing p n ≡ passing q n
passing_same p q zero same = refl
passing_same p q (suc n) same =
    let next : suc n ≡ n + 1 = omega arith in
    let was : passing p n ≡ passing q n = passing_same p q n (λ i h. same i (omega (arith, h))) in
    let one : from_bool (p n) ≡ from_bool (q n) = ap from_bool (same n (omega arith)) in
    ap (passing p) next ∙ count_more p n ∙ omega (arith, was, one) ∙ sym (count_more q n) ∙ sym (ap (passing q) next)

-- a range in which no index satisfies the condition
pub none_counted : (test : ℕ → Bool) (from m : ℕ) → ((i : ℕ) → from ≤ i → test i ≡ false) → passing test (from + m) ≡ passing test from
none_counted test from zero fails = ap (passing test) (let e : from + 0 ≡ from = omega arith in e)
none_counted test from (suc m) fails =
    let place : from + suc m ≡ from + m + 1 = omega arith in
    let off_here : from_bool (test (from + m)) ≡ 0 = ap from_bool (fails (from + m) (omega arith)) in
    let more : passing test (from + m + 1) ≡ passing test (from + m) + from_bool (test (from + m)) = count_more test (from + m) in
    ap (passing test) place ∙ omega (arith, more, off_here, none_counted test from m fails)

-- the counts below 8 more elements, for a mask's next byte
module _ (set : List ℕ) (q : ℕ) where
  of_byte : (i : ℕ) → i < 8 → (get_or set q 0 / 2 ^ i % 2 == 1) ≡ mask_bit set (8 * q + i)
  of_byte i h =
      let byte : (8 * q + i) / 8 ≡ q = omega (arith, h) in
      let bit : (8 * q + i) % 8 ≡ i = omega (arith, h) in
      rw (byte, bit) refl

  pub count_in_byte : (below i : ℕ) → i ≤ 8 → below ≡ passing (mask_bit set) (8 * q)
      → below + count_ones (get_or set q 0 % 2 ^ i) ≡ passing (mask_bit set) (8 * q + i)
  count_in_byte below i h is = rw is (ones_counted (mask_bit set) (get_or set q 0) (8 * q) 8 i h (λ j l. of_byte j l))

  pub byte_counted : (below : ℕ) (old made new : List ℕ) → new ≡ put_chunk (8 * q) old made → length made ≡ 8 → 8 * q + 8 ≤ length old
      → ((i : ℕ) → i < 8 → get_or made i 0 ≡ below + count_ones (get_or set q 0 % 2 ^ i)) → below ≡ passing (mask_bit set) (8 * q)
      → ((k : ℕ) → k < 8 * q → get_or old k 0 ≡ passing (mask_bit set) k) → (k : ℕ) → k < 8 * (q + 1) → get_or new k 0 ≡ passing (mask_bit set) k
  byte_counted below old made new e long room known is was k h = elim (cases_lt k (8 * q)) [
    | inl low ↦ ap (λ xs. get_or xs k 0) e ∙ get_or-put_chunk_below (8 * q) old made k 0 low ∙ was k low
    | inr high ↦
        let at : 8 * q + (k - 8 * q) ≡ k = omega (arith, high) in
        let inside : k - 8 * q < 8 = omega (arith, h, high) in
        ap (λ xs. get_or xs k 0) e ∙ ap (λ x. get_or (put_chunk (8 * q) old made) x 0) (sym at)
        ∙ get_or-put_chunk_at (8 * q) old made (k - 8 * q) 0 (omega (arith, inside, long)) (omega (arith, room, long))
        ∙ known (k - 8 * q) inside ∙ count_in_byte below (k - 8 * q) (omega (arith, inside)) is ∙ ap (passing (mask_bit set)) at
  ]

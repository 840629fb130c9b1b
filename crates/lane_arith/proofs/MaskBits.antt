-- Bit masks for the elements of a chunk.
use Rattle.std.proofs.Common.{bit_xor, cond, ◌≡◌, ℕ, zero, suc, ◌+◌, ◌-◌, ◌*◌, ◌/◌, ◌%◌, ◌^◌, ◌<◌, ◌≤◌, Bool, true, false, not, eqb, List, [], ◌∷◌, length, get_or, refl, sym, ap, ◌∙◌, arith, bit_and, min, max, ◌&&◌, inl, inr, nat_le, le-leb, lt-ltb, le-ltb}
use Rattle.std.proofs.Math.Nat.{mul-add, mul-div-le, mul-div_cancel, mul-le-mul_left, mul-suc, mul-zero, mul_assoc, mul-le-mul_right, mul_comm, pow-le-pow_right, suc-mul, div-div-eq-div-mul, div-one, pow-succ'}
use Rattle.std.proofs.lemmas.Bool.{cases_lt}
use Rattle.std.proofs.lemmas.Bool.Decides.{nat_tests}
use Rattle.std.proofs.lemmas.Nat.{pow-add, pow_pos, and_mask}
use Rattle.std.proofs.lemmas.Nat.Bits.{bit_at_cat_high, bit_at_cat_low, bit_at_xor, bit_at_and, bit_at-lt, bit_at_ones, bit_at_mask_inside, bit_at_mask_below, bit_at_mask_above}
use Rattle.std.proofs.lemmas.Simd.{length-chunk, get_or-chunk, chunk-fits, below_from_Fits}
use Rattle.std.specs.Int.{w8}
use lib.Lanes.{Each1, number_l, chunk}
use Rattle.rv_model.specs.elements.Elements.{element, in_range, mask_bit}
use Rattle.rv_model.proofs.element_lemmas.Reads.{bytes_power}

-- the bitwise AND of two masks is set where both are
pub both_bits : (a b i : ℕ) (p q : Bool) → eqb (a / 2 ^ i % 2) 0 ≡ not p → eqb (b / 2 ^ i % 2) 0 ≡ not q → eqb (bit_and a b / 2 ^ i % 2) 0 ≡ not (p && q)
both_bits a b i p q h k = ap (λ x. eqb x 0) (bit_at_and a b i) ∙ go p q (a / 2 ^ i % 2) (b / 2 ^ i % 2) (bit_at-lt a i) (bit_at-lt b i) h k
  where
    go : (p q : Bool) (x y : ℕ) → x < 2 → y < 2 → eqb x 0 ≡ not p → eqb y 0 ≡ not q → eqb (min x y) 0 ≡ not (p && q)
    go true true x y l m h k = grind (arith, nat_tests)
    go true false x y l m h k = grind (arith, nat_tests)
    go false q x y l m h k = grind (arith, nat_tests)

-- the difference of two powers of 2 is a mask of the range's elements in a chunk
pub body_bit : (start end first count low high i : ℕ) → low ≡ min (start - first) count → high ≡ max (min (end - first) count) low → i < count
    → eqb ((2 ^ high - 2 ^ low) / 2 ^ i % 2) 0 ≡ not (in_range start end (first + i))
body_bit start end first count low high i l h inside = elim (cases_lt (first + i) start) [
  | inl before ↦
      let under : i < low = omega arith in
      let off : nat_le start (first + i) ≡ false = grind (arith, nat_tests) in
      rw (bit_at_mask_below low high i under, off) refl
  | inr from ↦ elim (cases_lt (first + i) end) [
    | inl to ↦
        let over : low ≤ i = omega arith in
        let under : i < high = omega arith in
        rw (bit_at_mask_inside low high i over under, le-leb start (first + i) from, lt-ltb (first + i) end to) refl
    | inr past ↦
        let over : high ≤ i = omega arith in
        rw (bit_at_mask_above low high i over, le-leb start (first + i) from, le-ltb (first + i) end past) refl
  ]
]

-- byte m of the number that a list of bytes represents
pub byte_of_number : (ys : List ℕ) (m : ℕ) → Each1 (λ x. x < 256) ys → m < length ys → number_l 256 ys / 256 ^ m % 256 ≡ get_or ys m 0
byte_of_number [] m f h = absurd (omega arith)
byte_of_number (y ∷ ys) zero f h =
    let z : number_l 256 (y ∷ ys) / 256 ^ 0 ≡ y + 256 * number_l 256 ys = div-one (y + 256 * number_l 256 ys) in
    let b : y < 256 = f.0 in
    rw z (omega arith)
byte_of_number (y ∷ ys) (suc m) f h =
    let b : y < 256 = f.0 in
    let q : (y + 256 * number_l 256 ys) / 256 ≡ number_l 256 ys = omega arith in
    let s : (y + 256 * number_l 256 ys) / 256 ^ suc m ≡ (y + 256 * number_l 256 ys) / 256 / 256 ^ m =
    ap (λ z. (y + 256 * number_l 256 ys) / z) (pow-succ' 256 m) ∙ sym (div-div-eq-div-mul (y + 256 * number_l 256 ys) 256 (256 ^ m)) in
    rw (s, q) (byte_of_number ys m f.1 (omega arith))

-- a bit below k of a number's low k bits
pub low_bit : (n k i : ℕ) → i < k → n % 2 ^ k / 2 ^ i % 2 ≡ n / 2 ^ i % 2
low_bit n k i h =
    let one : (2 ^ k - 1) / 2 ^ i % 2 ≡ 1 = bit_at_ones k i h in
    ap (λ x. x / 2 ^ i % 2) (sym (and_mask n k)) ∙ bit_at_and n (2 ^ k - 1) i ∙ omega (arith, one, bit_at-lt n i)

-- a bit of the mask, read as 32-bit words
pub word_bit : (mask : List ℕ) (first count i : ℕ) → 4 * (first / 32) + 4 ≤ length mask → ((j : ℕ) → get_or mask j 0 < 256) → first % 32 + count ≤ 32 → i < count
    → eqb (element 4 mask (first / 32) / 2 ^ (first % 32) / 2 ^ i % 2) 0 ≡ not (mask_bit mask (first + i))
word_bit mask first count i long fits word h =
    let q : ℕ = first / 32 in
    let s : ℕ = first % 32 + i in
    let m : ℕ = s / 8 in
    let r : ℕ = s % 8 in
    let e : first + i ≡ 32 * q + s = omega arith in
    let small : s < 32 = omega arith in
    let byte : (first + i) / 8 ≡ 4 * q + m = omega (arith, e) in
    let bit : (first + i) % 8 ≡ r = omega (arith, e) in
    let ys : List ℕ = chunk (4 * q) 4 mask in
    let ly : length ys ≡ 4 = length-chunk (4 * q) 4 mask (omega arith) in
    let n : ℕ = number_l 256 ys in
    let whole : 8 * m + r ≡ s = omega arith in
    let split : 256 ^ m * 2 ^ r ≡ 2 ^ s = ap (λ x. x * 2 ^ r) (sym (bytes_power m)) ∙ sym (pow-add 2 (8 * m) r) ∙ ap (λ x. 2 ^ x) whole in
    let two : n / 2 ^ (first % 32) / 2 ^ i ≡ n / 256 ^ m / 2 ^ r =
    div-div-eq-div-mul n (2 ^ (first % 32)) (2 ^ i) ∙ ap (λ x. n / x) (sym (pow-add 2 (first % 32) i) ∙ sym split) ∙ sym (div-div-eq-div-mul n (256 ^ m) (2 ^ r)) in
    let one : n / 256 ^ m / 2 ^ r % 2 ≡ get_or mask (4 * q + m) 0 / 2 ^ r % 2 =
    sym (low_bit (n / 256 ^ m) 8 r (omega arith)) ∙ ap (λ x. x / 2 ^ r % 2) (byte_of_number ys m (below_from_Fits w8 ys (chunk-fits w8 (4 * q) 4 mask (λ j. record { fits = fits j }))) (omega arith) ∙ get_or-chunk (4 * q) 4 mask m 0 (omega arith)) in
    rw (byte, bit) (ap (λ x. eqb (x % 2) 0) two ∙ ap (λ x. eqb x 0) one ∙ flip (get_or mask (4 * q + m) 0 / 2 ^ r))
  where
    flip : (x : ℕ) → eqb (x % 2) 0 ≡ not (eqb (x % 2) 1)
    flip x = grind (arith, nat_tests)

-- each element of a chunk is in the range if the chunk is inside it
pub all_in_range : (start end first count i : ℕ) → i < count → (nat_le start first && nat_le count (end - first)) ≡ true → in_range start end (first + i) ≡ true
all_in_range start end first count i h whole = grind (arith, nat_tests)

-- the condition that a set bit represents
pub known_set : (word i : ℕ) (b : Bool) → eqb (word / 2 ^ i % 2) 0 ≡ not b → not (eqb (word / 2 ^ i % 2) 0) ≡ b
known_set word i true e = rw e refl
known_set word i false e = rw e refl

-- the low n bits of a word represent the conditions `bit`, and all other bits are 0
pub record ShowsTo (n word : ℕ) (bit : ℕ → Bool) : Type 0 where
  pub below : word < 2 ^ n
  pub shows : (i : ℕ) → i < n → eqb (word / 2 ^ i % 2) 0 ≡ not (bit i)

-- n more bits above the low s bits
pub shows_more : (s n word more : ℕ) (bit : ℕ → Bool) → ShowsTo s word bit → more < 2 ^ n → ((i : ℕ) → i < n → eqb (more / 2 ^ i % 2) 0 ≡ not (bit (s + i)))
    → ShowsTo (s + n) (word + more * 2 ^ s) bit
shows_more s n word more bit was few known =
    let turn : word + more * 2 ^ s ≡ more * 2 ^ s + word = omega arith in
    let up : suc more * 2 ^ s ≤ 2 ^ n * 2 ^ s = mul-le-mul_right (2 ^ s) few in
    let whole : 2 ^ n * 2 ^ s ≡ 2 ^ (s + n) = mul_comm (2 ^ n) (2 ^ s) ∙ sym (pow-add 2 s n) in
    record {
      below = omega (arith, up, whole, suc-mul more (2 ^ s), was.below);
      shows = λ i h. elim (cases_lt i s) [
        | inl low ↦ rw (turn, bit_at_cat_low more s word i low) (was.shows i low)
        | inr high ↦
            let back : s + (i - s) ≡ i = omega (arith, high) in
            rw (turn, bit_at_cat_high more s word i was.below high) (known (i - s) (omega (arith, h, high)) ∙ ap (λ x. not (bit x)) back)
      ];
    }

pub shifted_fits : (s n more : ℕ) → s + n ≤ 64 → more < 2 ^ n → more * 2 ^ s < 2 ^ 64
shifted_fits s n more h few =
    let up : suc more * 2 ^ s ≤ 2 ^ n * 2 ^ s = mul-le-mul_right (2 ^ s) few in
    let whole : 2 ^ n * 2 ^ s ≡ 2 ^ (s + n) = mul_comm (2 ^ n) (2 ^ s) ∙ sym (pow-add 2 s n) in
    let most : 2 ^ (s + n) ≤ 2 ^ 64 = pow-le-pow_right (omega arith) h in
    omega (arith, up, whole, most, suc-mul more (2 ^ s), pow_pos s)

-- a bit of a 32-bit word whose active bits are replaced
pub replaced_bit : (old new active i : ℕ) → i < 32
    → eqb (bit_xor old (bit_and (bit_xor old new) active) % 2 ^ 32 / 2 ^ i % 2) 1 ≡ cond (eqb (active / 2 ^ i % 2) 0) (eqb (old / 2 ^ i % 2) 1) (not (eqb (new / 2 ^ i % 2) 0))
replaced_bit old new active i h =
    let x : ℕ = bit_xor old (bit_and (bit_xor old new) active) in
    let o : ℕ = old / 2 ^ i % 2 in
    let outer : x / 2 ^ i % 2 ≡ (o + bit_and (bit_xor old new) active / 2 ^ i % 2) % 2 = bit_at_xor old (bit_and (bit_xor old new) active) i in
    let middle : bit_and (bit_xor old new) active / 2 ^ i % 2 ≡ min (bit_xor old new / 2 ^ i % 2) (active / 2 ^ i % 2) = bit_at_and (bit_xor old new) active i in
    let inner : bit_xor old new / 2 ^ i % 2 ≡ (o + new / 2 ^ i % 2) % 2 = bit_at_xor old new i in
    rw (low_bit x 32 i h, outer, middle, inner) (pick o (new / 2 ^ i % 2) (active / 2 ^ i % 2) (bit_at-lt old i) (bit_at-lt new i) (bit_at-lt active i))
  where
    pick : (o n a : ℕ) → o < 2 → n < 2 → a < 2 → eqb ((o + min ((o + n) % 2) a) % 2) 1 ≡ cond (eqb a 0) (eqb o 1) (not (eqb n 0))
    pick (suc (suc o)) n a p q r = absurd (omega (arith, p))
    pick o (suc (suc n)) a p q r = absurd (omega (arith, q))
    pick o n (suc (suc a)) p q r = absurd (omega (arith, r))
    pick _ _ _ p q r = refl

-- ---- the chunks of a word of 32 bits

-- a chunk has at least one element
pub count_positive : (k n : ℕ) → k * n ≡ 32 → 0 < n
count_positive k zero e = absurd (omega (arith, e, mul-zero k))
count_positive k (suc n) e = omega arith

-- 32 / n chunks of n elements have 32 elements
pub word_chunks : (k n : ℕ) → k * n ≡ 32 → n * (32 / n) ≡ 32
word_chunks k n e =
    let some : 0 < n = count_positive k n e in
    let is : 32 / n ≡ k = ap (λ x. x / n) (sym e) ∙ mul-div_cancel k some in
    ap (λ x. n * x) is ∙ mul_comm n k ∙ e

-- the index of element i of chunk j of a 32-bit word
pub place_in_word : (n q word j i : ℕ) → n * q ≡ 32 → n * (q * word + j) + i ≡ 32 * word + (n * j + i)
place_in_word n q word j i e =
    let parts : n * (q * word + j) ≡ n * (q * word) + n * j = mul-add n (q * word) j in
    let whole : n * (q * word) ≡ 32 * word = sym (mul_assoc n q word) ∙ ap (λ x. x * word) e in
    omega (arith, parts, whole)

-- each chunk of a 32-bit word ends at or below bit 32
pub chunk_ends : (n j : ℕ) → j < 32 / n → n * j + n ≤ 32
chunk_ends n j h =
    let up : n * suc j ≤ n * (32 / n) = mul-le-mul_left n h in
    omega (arith, up, mul-div-le 32 n, mul-suc n j)

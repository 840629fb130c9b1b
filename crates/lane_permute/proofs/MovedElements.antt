-- Elements of 32 bytes that are consecutive elements of a list.
use Rattle.std.proofs.Common.{ℕ, zero, suc, ◌+◌, ◌-◌, ◌*◌, ◌/◌, ◌%◌, ◌^◌, ◌<◌, ◌≤◌, ◌≡◌, ◌==◌, true, false, min, List, [], ◌∷◌, length, take, drop, replicate, get_or, cond, nat_lt, refl, sym, ap, ◌∙◌, arith, inl, inr, lt-ltb, le-ltb}
use Rattle.std.proofs.Math.Nat.{mul-add, mul-le-mul_left, mul-suc}
use Rattle.std.proofs.lemmas.Bool.{cases_lt}
use Rattle.std.proofs.lemmas.Bool.Decides.{nat_tests}
use Rattle.std.proofs.lemmas.List.{get_or-drop, get_or_past, length-take}
use Rattle.std.proofs.lemmas.Nat.Bits.{bit_at_ones, bit_at_ones_above}
use Rattle.std.proofs.lemmas.Simd.{get_or-chunk, get_or-put_chunk_above, get_or-put_chunk_at, get_or-replicate, length-chunk}
use lib.Lanes.{chunk, number_l, put_chunk}
use Rattle.rv_model.specs.elements.Elements.{element}
use Rattle.rv_model.specs.elements.PermutationResults.{gathered}
use Rattle.rv_model.proofs.element_lemmas.Reads.{element-take}

-- ---- bytes

-- a byte of a chunk with zeros on both sides
between : (room ys : List ℕ) (p : ℕ) → length room ≡ 96 → get_or room p 0 ≡ 0 → length ys ≡ 32 → 32 ≤ p → get_or (put_chunk 32 room ys) p 0 ≡ get_or ys (p - 32) 0
between room ys p wide none long from = elim (cases_lt p 64) [
  | inl low ↦
      let place : 32 + (p - 32) ≡ p = omega (arith, from) in
      ap (λ x. get_or (put_chunk 32 room ys) x 0) (sym place) ∙ get_or-put_chunk_at 32 room ys (p - 32) 0 (omega (arith, low, from, long)) (omega (arith, wide, long))
  | inr high ↦ get_or-put_chunk_above 32 room ys p 0 (omega (arith, high, long)) ∙ none ∙ sym (get_or_past ys (p - 32) 0 (omega (arith, high, long)))
]

-- the bytes starting at an index of a sequence of 32 zeros, a list, and zeros
pub byte_around : (xs : List ℕ) (at start j : ℕ) → 32 ≤ length xs → at ≤ length xs + 32 → start ≡ min (at - 32) (length xs - 32) → j < 32 → 32 ≤ at + j
    → get_or (chunk (at - start) 32 (put_chunk 32 (replicate 96 0) (chunk start 32 xs))) j 0 ≡ get_or xs (at + j - 32) 0
byte_around xs at start j whole inside is h behind =
    let p : ℕ = at - start + j in
    let long : length (chunk start 32 xs) ≡ 32 = length-chunk start 32 xs (omega (arith, is, whole)) in
    get_or-chunk (at - start) 32 _ j 0 h
    ∙ between (replicate 96 0) (chunk start 32 xs) p refl (get_or-replicate 96 p 0 0 (omega (arith, is, h, inside, whole))) long (omega (arith, is, behind))
    ∙ elim (cases_lt p 64) [
      | inl low ↦
          let there : start + (p - 32) ≡ at + j - 32 = omega (arith, is, behind) in
          get_or-chunk start 32 xs (p - 32) 0 (omega (arith, low, is, behind)) ∙ ap (λ x. get_or xs x 0) there
      | inr high ↦
          get_or_past (chunk start 32 xs) (p - 32) 0 (omega (arith, high, long)) ∙ sym (get_or_past xs (at + j - 32) 0 (omega (arith, is, high, h, whole)))
    ]

-- ---- elements

no_bytes : (k : ℕ) → number_l 256 (take k []) ≡ 0
no_bytes zero = refl
no_bytes (suc k) = refl

same_number : (k : ℕ) (xs ys : List ℕ) → ((m : ℕ) → m < k → get_or xs m 0 ≡ get_or ys m 0) → number_l 256 (take k xs) ≡ number_l 256 (take k ys)
same_number zero xs ys same = refl
same_number (suc k) [] [] same = refl
same_number (suc k) [] (y ∷ ys) same =
    let first : 0 ≡ y = same 0 (omega arith) in
    let rest : number_l 256 (take k []) ≡ number_l 256 (take k ys) = same_number k [] ys (λ m h. same (suc m) (omega (arith, h))) in
    omega (arith, first, rest, no_bytes k)
same_number (suc k) (x ∷ xs) [] same =
    let first : x ≡ 0 = same 0 (omega arith) in
    let rest : number_l 256 (take k xs) ≡ number_l 256 (take k []) = same_number k xs [] (λ m h. same (suc m) (omega (arith, h))) in
    omega (arith, first, rest, no_bytes k)
same_number (suc k) (x ∷ xs) (y ∷ ys) same =
    let first : x ≡ y = same 0 (omega arith) in
    let rest : number_l 256 (take k xs) ≡ number_l 256 (take k ys) = same_number k xs ys (λ m h. same (suc m) (omega (arith, h))) in
    omega (arith, first, rest)

same_element : (k i e : ℕ) (xs ys : List ℕ) → ((m : ℕ) → m < k → get_or xs (k * i + m) 0 ≡ get_or ys (k * e + m) 0) → element k xs i ≡ element k ys e
same_element k i e xs ys same =
    same_number k (drop (k * i) xs) (drop (k * e) ys) (λ m h. get_or-drop (k * i) xs m 0 ∙ same m h ∙ sym (get_or-drop (k * e) ys m 0))

-- an element past the end of the list is 0
element_past : (k e : ℕ) (xs : List ℕ) → length xs ≤ k * e → element k xs e ≡ 0
element_past k e xs h =
    same_number k (drop (k * e) xs) [] (λ m l. get_or-drop (k * e) xs m 0 ∙ get_or_past xs (k * e + m) 0 (omega (arith, h))) ∙ no_bytes k

in_chunk : (k n i m : ℕ) → k * n ≡ 32 → i < n → m < k → k * i + m < 32
in_chunk k n i m fills h l =
    let up : k * suc i ≤ k * n = mul-le-mul_left k h in
    omega (arith, up, fills, mul-suc k i, l)

-- the elements starting at an index of a sequence of n zeros, a list, and zeros
pub element_around : (k n from i : ℕ) (bytes xs : List ℕ) → k * n ≡ 32 → i < n → n ≤ from + i
    → ((j : ℕ) → j < 32 → 32 ≤ k * from + j → get_or bytes j 0 ≡ get_or xs (k * from + j - 32) 0)
    → element k bytes i ≡ element k xs (from + i - n)
element_around k n from i bytes xs fills h past known =
    let e : from + i ≡ n + (from + i - n) = omega (arith, past) in
    let split : k * from + k * i ≡ 32 + k * (from + i - n) = sym (mul-add k from i) ∙ ap (λ x. k * x) e ∙ mul-add k n (from + i - n) ∙ ap (λ x. x + k * (from + i - n)) fills in
    same_element k i (from + i - n) bytes xs (λ m l.
    let place : k * from + (k * i + m) - 32 ≡ k * (from + i - n) + m = omega (arith, split) in
    known (k * i + m) (in_chunk k n i m fills h l) (omega (arith, split)) ∙ ap (λ x. get_or xs x 0) place)

-- the first elements of a list, followed by zeros
limited : (k limit x y : ℕ) (xs : List ℕ) → k * limit ≤ length xs → (x < limit → y ≡ x) → (limit ≤ x → limit ≤ y)
    → element k (take (k * limit) xs) y ≡ gathered limit (element k xs) x
limited k limit x y xs room same past = elim (cases_lt x limit) [
  | inl low ↦
      let up : k * suc x ≤ k * limit = mul-le-mul_left k low in
      rw (lt-ltb x limit low, same low) (element-take k (k * limit) x xs (omega (arith, up, mul-suc k x)))
  | inr high ↦
      let up : k * limit ≤ k * y = mul-le-mul_left k (past high) in
      rw (le-ltb x limit high) (element_past k y (take (k * limit) xs) (omega (arith, up, length-take (k * limit) xs)))
]

-- the elements starting at an offset, which is added with saturation at `top`
pub moved_down_lane : (k limit offset first n i place from top : ℕ) (xs : List ℕ) → k * limit ≤ length xs → limit ≤ top
    → place ≡ min (offset + first) top → from ≡ min place limit
    → element k (take (k * limit) xs) (from + n + i - n) ≡ gathered limit (element k xs) (first + i + offset)
moved_down_lane k limit offset first n i place from top xs room few is least =
    limited k limit (first + i + offset) (from + n + i - n) xs room (λ low. omega (arith, few, is, least, low)) (λ high. omega (arith, few, is, least, high))

-- ---- selections of elements

-- a mask of the low `count` bits selects the elements below `count`
pub picked : (count i lane x y : ℕ) → (lane == 0) ≡ ((2 ^ count - 1) / 2 ^ i % 2 == 0) → cond (lane == 0) y x ≡ cond (nat_lt i count) x y
picked count i lane x y known = elim (cases_lt i count) [
  | inl low ↦ (let one : (2 ^ count - 1) / 2 ^ i % 2 ≡ 1 = bit_at_ones count i low in rw (known, one, lt-ltb i count low) refl)
  | inr high ↦ (let none : (2 ^ count - 1) / 2 ^ i % 2 ≡ 0 = bit_at_ones_above count i high in rw (known, none, le-ltb i count high) refl)
]

-- a number before the elements that are moved up
pub moved_up_lane : (offset first n start gap i : ℕ) {made moved before v e : ℕ} → i < n → start ≡ min offset (first + n) → gap ≡ start - first
    → made ≡ cond (nat_lt i gap) before moved → before ≡ v → (offset ≤ first + i → moved ≡ e) → made ≡ cond (nat_lt (first + i) offset) v e
moved_up_lane offset first n start gap i h is long made one rest = elim (cases_lt (first + i) offset) [
  | inl low ↦ (let t : nat_lt i gap ≡ true = lt-ltb i gap (omega (arith, is, long, low, h)) in rw (lt-ltb (first + i) offset low) (rw t at made ∙ one))
  | inr high ↦ (let t : nat_lt i gap ≡ false = le-ltb i gap (omega (arith, is, long, high)) in rw (le-ltb (first + i) offset high) (rw t at made ∙ rest high))
]

-- the same if the number is the first element
pub first_before : (f : ℕ → ℕ) (x offset v : ℕ) → v ≡ f 0 → cond (nat_lt x offset) v (f (x - offset)) ≡ f (x - offset)
first_before f x offset v is = elim (cases_lt x offset) [
  | inl low ↦ (let none : x - offset ≡ 0 = omega (arith, low) in rw (lt-ltb x offset low, none) is)
  | inr high ↦ rw (le-ltb x offset high) refl
]

pub is_first : (x : ℕ) → nat_lt x 1 ≡ (x == 0)
is_first x = grind (arith, nat_tests)

-- a number in place of the last of the elements that are moved down
pub last_lane : (end first n i before to : ℕ) (last moved : ℕ) → i < n → before ≡ min (end - (first + 1)) n → to ≡ min (end - first) n
    → cond (nat_lt i before) moved (cond (nat_lt i to) last moved) ≡ cond (first + i + 1 == end) last moved
last_lane end first n i before to last moved h low high = elim (cases_lt i before) [
  | inl less ↦ (let t : (first + i + 1 == end) ≡ false = grind (arith, nat_tests) in rw (lt-ltb i before less, t) refl)
  | inr more ↦ elim (cases_lt i to) [
    | inl less ↦ (let t : (first + i + 1 == end) ≡ true = grind (arith, nat_tests) in rw (le-ltb i before more, lt-ltb i to less, t) refl)
    | inr past ↦ (let t : (first + i + 1 == end) ≡ false = grind (arith, nat_tests) in rw (le-ltb i before more, le-ltb i to past, t) refl)
  ]
]

-- Mask registers as SIMD vectors of 32 bytes, and their bits.
use Rattle.std.proofs.Common.{bit_and, bit_or, bit_xor, ◌≡◌, ℕ, suc, ◌+◌, ◌-◌, ◌*◌, ◌/◌, ◌%◌, ◌^◌, ◌<◌, ◌==◌, Bool, true, false, not, cond, eqb, ltb, List, length, get_or, map, replicate, refl, sym, ap, ◌∙◌, arith, min, max, ◌&&◌, ◌||◌, Fits, inl, inr, eqb-true, lt-ltb, le-ltb}
use Rattle.std.proofs.lemmas.Bool.{cases_lt, cases_order}
use Rattle.std.proofs.lemmas.Bool.Decides.{nat_tests}
use Rattle.std.proofs.lemmas.List.{get_or-map, length-map}
use Rattle.std.proofs.lemmas.Nat.{or_lt, xor_lt}
use Rattle.std.proofs.lemmas.Nat.Bits.{bit_at_and, bit_at_or, bit_at_xor, bit_at_not, bit_at-lt, bit_at_ones, bit_at_ones_above}
use Rattle.std.proofs.Math.Nat.{zero-div}
use Rattle.std.proofs.lemmas.Simd.{get_or-replicate, get_or-zip2, length-replicate, length-sel_l, length-zip2, tops_compared, Each1-get_or, Each1-from_get_or}
use Rattle.std.specs.Int.{bit_not, w8}
use lib.Bits.{and_le_r}
use lib.Lanes.{Each1, sel_l, top, zip2}
use Rattle.rv_model.specs.elements.Elements.{in_range, mask_bit, bit_or as old_or_new}
use Rattle.rv_model.specs.elements.Masks.{xor}
use Rattle.rv_model.specs.lending.Writes.{WritesBits}
use Rattle.rv_model.proofs.element_lemmas.Bits.{same_byte}
use Rattle.lane_arith.proofs.MaskWords.{byte_of_own}
use Rattle.lane_arith.proofs.VectorLanes.{chosen_by, all_below, every_below}

-- 32 bytes with these 256 bits
pub record IsMask (bytes : List ℕ) (bit : ℕ → Bool) : Type 0 where
  pub long : length bytes ≡ 32
  pub fits : Each1 (Fits w8) bytes
  pub bits : (i : ℕ) → i < 256 → mask_bit bytes i ≡ bit i

-- the bits of a vector of 32 bytes
pub own_bits : (xs : List ℕ) → length xs ≡ 32 → Each1 (Fits w8) xs → IsMask xs (mask_bit xs)
own_bits xs long fits = record { long = long; fits = fits; bits = λ i h. refl }

-- a bitwise operation on bytes, applied to vectors of 32 bytes
both : (f : ℕ → ℕ → ℕ) (g : Bool → Bool → Bool)
    → ((a b i : ℕ) → (f a b / 2 ^ i % 2 == 1) ≡ g (a / 2 ^ i % 2 == 1) (b / 2 ^ i % 2 == 1))
    → ((a b : ℕ) → a < 2 ^ 8 → b < 2 ^ 8 → f a b < 2 ^ 8)
    → {xs ys : List ℕ} {p q : ℕ → Bool} → IsMask xs p → IsMask ys q → IsMask (zip2 f xs ys) (λ i. g (p i) (q i))
both f g bit small {xs} {ys} {p} {q} a b =
    let long : length (zip2 f xs ys) ≡ 32 = length-zip2 f xs ys (a.long ∙ sym b.long) ∙ a.long in
    let at : (k : ℕ) → k < 32 → get_or (zip2 f xs ys) k 0 ≡ f (get_or xs k 0) (get_or ys k 0) =
    λ k h. get_or-zip2 f xs ys k 0 0 0 (omega (arith, h, a.long)) (omega (arith, h, b.long)) in
    record {
      long = long;
      fits = Each1-from_get_or (Fits w8) (zip2 f xs ys) 0 (λ k h.
          let few : k < 32 = omega (arith, h, long) in
          rw (at k few) (record { fits = small (get_or xs k 0) (get_or ys k 0) (Each1-get_or (Fits w8) xs k 0 (omega (arith, few, a.long)) a.fits).fits (Each1-get_or (Fits w8) ys k 0 (omega (arith, few, b.long)) b.fits).fits }));
      bits = λ i h.
          ap (λ x. x / 2 ^ (i % 8) % 2 == 1) (at (i / 8) (omega (arith, h))) ∙ bit (get_or xs (i / 8) 0) (get_or ys (i / 8) 0) (i % 8)
          ∙ ap (λ x. g x (mask_bit ys i)) (a.bits i h) ∙ ap (g (p i)) (b.bits i h);
    }

pub mask_and : {xs ys : List ℕ} {p q : ℕ → Bool} → IsMask xs p → IsMask ys q → IsMask (zip2 bit_and xs ys) (λ i. p i && q i)
mask_and = both bit_and (λ x y. x && y) (λ a b i. ap (λ x. x == 1) (bit_at_and a b i) ∙ go (a / 2 ^ i % 2) (b / 2 ^ i % 2) (bit_at-lt a i) (bit_at-lt b i))
    (λ a b s t. omega (arith, and_le_r a b, t))
  where
    go : (x y : ℕ) → x < 2 → y < 2 → (min x y == 1) ≡ ((x == 1) && (y == 1))
    go x y s t = grind (arith, nat_tests)

pub mask_or : {xs ys : List ℕ} {p q : ℕ → Bool} → IsMask xs p → IsMask ys q → IsMask (zip2 bit_or xs ys) (λ i. p i || q i)
mask_or = both bit_or (λ x y. x || y) (λ a b i. ap (λ x. x == 1) (bit_at_or a b i) ∙ go (a / 2 ^ i % 2) (b / 2 ^ i % 2) (bit_at-lt a i) (bit_at-lt b i)) (or_lt 8)
  where
    go : (x y : ℕ) → x < 2 → y < 2 → (max x y == 1) ≡ ((x == 1) || (y == 1))
    go x y s t = grind (arith, nat_tests)

pub mask_xor : {xs ys : List ℕ} {p q : ℕ → Bool} → IsMask xs p → IsMask ys q → IsMask (zip2 bit_xor xs ys) (λ i. xor (p i) (q i))
mask_xor = both bit_xor xor (λ a b i. ap (λ x. x == 1) (bit_at_xor a b i) ∙ go (a / 2 ^ i % 2) (b / 2 ^ i % 2) (bit_at-lt a i) (bit_at-lt b i)) (xor_lt 8)
  where
    go : (x y : ℕ) → x < 2 → y < 2 → ((x + y) % 2 == 1) ≡ xor (x == 1) (y == 1)
    go (suc (suc x)) y s t = absurd (omega (arith, s))
    go x (suc (suc y)) s t = absurd (omega (arith, t))
    go _ _ s t = refl

pub mask_not : {xs : List ℕ} {p : ℕ → Bool} → IsMask xs p → IsMask (map (bit_not w8) xs) (λ i. not (p i))
mask_not {xs} {p} a =
    let long : length (map (bit_not w8) xs) ≡ 32 = length-map xs (bit_not w8) ∙ a.long in
    let at : (k : ℕ) → k < 32 → get_or (map (bit_not w8) xs) k 0 ≡ bit_not w8 (get_or xs k 0) = λ k h. get_or-map (bit_not w8) xs k 0 0 (omega (arith, h, a.long)) in
    let small : (k : ℕ) → k < 32 → get_or xs k 0 < 256 = λ k h. (Each1-get_or (Fits w8) xs k 0 (omega (arith, h, a.long)) a.fits).fits in
    record {
      long = long;
      fits = Each1-from_get_or (Fits w8) (map (bit_not w8) xs) 0 (λ k h. rw (at k (omega (arith, h, long))) (record { fits = omega arith }));
      bits = λ i h.
          let x : ℕ = get_or xs (i / 8) 0 in
          ap (λ y. y / 2 ^ (i % 8) % 2 == 1) (at (i / 8) (omega (arith, h)))
          ∙ ap (λ y. y == 1) (bit_at_not w8 x (i % 8) (small (i / 8) (omega (arith, h))) (omega arith))
          ∙ go (x / 2 ^ (i % 8) % 2) (bit_at-lt x (i % 8)) ∙ ap not (a.bits i h);
    }
  where
    go : (x : ℕ) → x < 2 → (1 - x == 1) ≡ not (x == 1)
    go (suc (suc x)) s = absurd (omega (arith, s))
    go _ s = refl

-- the bits of a register with its active bits replaced
pub mask_replaced : {old results active : List ℕ} {o r a : ℕ → Bool} → IsMask old o → IsMask results r → IsMask active a
    → IsMask (zip2 bit_xor old (zip2 bit_and (zip2 bit_xor old results) active)) (λ i. cond (a i) (r i) (o i))
mask_replaced {o} {r} {a} x y z =
    let made = mask_xor x (mask_and (mask_xor x y) z) in
    record { long = made.long; fits = made.fits; bits = λ i h. made.bits i h ∙ pick (o i) (r i) (a i) }
  where
    pick : (o r a : Bool) → xor o (xor o r && a) ≡ cond a r o
    pick true true true = refl
    pick _ true true = refl
    pick _ _ true = refl
    pick _ _ _ = refl

-- ---- the bits below an index

-- byte k of the mask of the bits below `end`
abbrev low_byte : ℕ → ℕ → ℕ
low_byte end k = cond (ltb k (end / 8)) 255 (cond (eqb k (end / 8)) (1 * 2 ^ (end % 8) % 256 - 1) 0)

low_bit_known : (end k j : ℕ) → j < 8 → (low_byte end k / 2 ^ j % 2 == 1) ≡ ltb (8 * k + j) end
low_bit_known end k j h =
    let r : ℕ = end % 8 in
    elim (cases_order k (end / 8)) [
      | inl is ↦
          let part : 1 * 2 ^ r % 256 - 1 ≡ 2 ^ r - 1 =
          eqb-true (1 * 2 ^ r % 256 - 1) (2 ^ r - 1) (every_below (λ x. eqb (1 * 2 ^ x % 256 - 1) (2 ^ x - 1)) 8 refl r (omega arith)) in
          let same : eqb k (end / 8) ≡ true = grind (arith, nat_tests) in
          rw (le-ltb k (end / 8) (omega arith), same, part) (elim (cases_lt j r) [
            | inl under ↦ rw (bit_at_ones r j under, lt-ltb (8 * k + j) end (omega arith)) refl
            | inr over ↦ rw (bit_at_ones_above r j over, le-ltb (8 * k + j) end (omega arith)) refl
          ])
      | inr (inl before) ↦
          let one : 255 / 2 ^ j % 2 ≡ 1 = bit_at_ones 8 j h in
          rw (lt-ltb k (end / 8) before, one, lt-ltb (8 * k + j) end (omega arith)) refl
      | inr (inr past) ↦
          let other : eqb k (end / 8) ≡ false = grind (arith, nat_tests) in
          rw (le-ltb k (end / 8) (omega arith), other, zero-div (2 ^ j), le-ltb (8 * k + j) end (omega arith)) refl
    ]

-- the mask of the bits below `end`, computed by comparing a table of byte indices with the index of the byte that contains `end`
pub low_mask : (places : List ℕ) → length places ≡ 32 → all_below (λ k. eqb (get_or places k 0) k) 32 ≡ true → (end i : ℕ) → i < 256
    → mask_bit (sel_l (map (top 7) (zip2 (λ a b. cond (ltb a b) 255 0) places (replicate 32 (end / 8)))) (replicate 32 255)
    (sel_l (map (top 7) (zip2 (λ a b. cond (eqb a b) 255 0) places (replicate 32 (end / 8)))) (replicate 32 (1 * 2 ^ (end % 8) % 256 - 1)) (replicate 32 0))) i ≡ ltb i end
low_mask places long known end i h =
    let none : ℕ = 0 in
    let all : ℕ = 255 in
    let q : ℕ = end / 8 in
    let p : ℕ = 1 * 2 ^ (end % 8) % 256 - 1 in
    let k : ℕ = i / 8 in
    let few : k < 32 = omega (arith, h) in
    let qs : List ℕ = replicate 32 q in
    let lq : length qs ≡ 32 = length-replicate 32 q in
    let at_q : get_or qs k 0 ≡ q = get_or-replicate 32 k q 0 few in
    let at : get_or places k 0 ≡ k = eqb-true (get_or places k 0) k (every_below (λ x. eqb (get_or places x 0) x) 32 known k few) in
    let rest : List ℕ = sel_l (map (top 7) (zip2 (λ a b. cond (eqb a b) 255 0) places qs)) (replicate 32 p) (replicate 32 none) in
    let inner : get_or rest k 0 ≡ cond (eqb k q) p 0 =
    rw (chosen_by w8 eqb places qs (replicate 32 p) (replicate 32 none) 32 k long lq (length-replicate 32 p) (length-replicate 32 none) few, at, at_q, get_or-replicate 32 k p 0 few, get_or-replicate 32 k none 0 few) refl in
    let short : length (zip2 eqb places qs) ≡ 32 = length-zip2 eqb places qs (long ∙ sym lq) ∙ long in
    let lr : length rest ≡ 32 =
    rw (tops_compared w8 eqb places qs) (length-sel_l (zip2 eqb places qs) (replicate 32 p) (replicate 32 none) (short ∙ sym (length-replicate 32 p)) (short ∙ sym (length-replicate 32 none)) ∙ short) in
    let outer : get_or (sel_l (map (top 7) (zip2 (λ a b. cond (ltb a b) 255 0) places qs)) (replicate 32 all) rest) k 0 ≡ low_byte end k =
    chosen_by w8 ltb places qs (replicate 32 all) rest 32 k long lq (length-replicate 32 all) lr few
    ∙ ap (λ x. cond (ltb x (get_or qs k 0)) (get_or (replicate 32 all) k 0) (get_or rest k 0)) at
    ∙ ap (λ x. cond (ltb k x) (get_or (replicate 32 all) k 0) (get_or rest k 0)) at_q
    ∙ ap (λ x. cond (ltb k q) x (get_or rest k 0)) (get_or-replicate 32 k all 0 few)
    ∙ ap (cond (ltb k q) 255) inner in
    let whole : 8 * k + i % 8 ≡ i = omega arith in
    ap (λ x. x / 2 ^ (i % 8) % 2 == 1) outer ∙ low_bit_known end k (i % 8) (omega arith) ∙ ap (λ x. ltb x end) whole

-- the bits below `end` without those below `start` are the range
pub below_but_before : (start end i : ℕ) → (ltb i end && not (ltb i (min start end))) ≡ in_range start end i
below_but_before start end i = grind (arith, nat_tests)

-- ---- writes to a register

in_byte : (bytes : List ℕ) (q j : ℕ) → j < 8 → mask_bit bytes (8 * q + j) ≡ (get_or bytes q 0 / 2 ^ j % 2 == 1)
in_byte bytes q j h =
    let at : (8 * q + j) / 8 ≡ q = omega (arith, h) in
    let shift : (8 * q + j) % 8 ≡ j = omega (arith, h) in
    rw (at, shift) refl

pub register_written : (changed bit : ℕ → Bool) (old new : List ℕ) → length old ≡ 32 → length new ≡ 32 → ((q : ℕ) → q < 32 → get_or new q 0 < 256)
    → ((i : ℕ) → i < 256 → mask_bit new i ≡ cond (changed i) (bit i) (mask_bit old i)) → WritesBits changed bit old new
register_written changed bit old new lo ln small known = record {
  same_length = ln ∙ sym lo;
  bytes = λ q h.
      let few : q < 32 = omega (arith, h, lo) in
      byte_of_own (get_or new q 0) (small q few)
      ∙ same_byte (λ j. get_or new q 0 / 2 ^ j % 2 == 1) (λ j. old_or_new changed bit old (8 * q + j))
      (λ j l. sym (in_byte new q j l) ∙ known (8 * q + j) (omega (arith, few, l)));
}

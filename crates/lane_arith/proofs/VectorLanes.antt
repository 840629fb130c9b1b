-- Operations on SIMD vectors, for each element.
use Rattle.std.proofs.Common.{lit<, not, ◌≡◌, ℕ, zero, suc, ◌+◌, ◌-◌, ◌*◌, ◌/◌, ◌%◌, ◌^◌, ◌<◌, ◌≤◌, Bool, true, false, cond, eqb, List, [], ◌∷◌, map, length, get_or, replicate, refl, sym, ap, ◌∙◌, zero-add, arith, ◌&&◌, eqb-true, Fits, bit_and, inl, inr, mod-eq_of_lt}
use Rattle.std.proofs.Math.Nat.{zero-mul, suc-mul, div-div-eq-div-mul, mod-lt}
use Rattle.std.proofs.lemmas.Bool.{cases_lt, false≢true}
use Rattle.std.proofs.lemmas.Bool.Decides.{nat_tests}
use Rattle.std.proofs.lemmas.List.{get_or-map, length-map}
use Rattle.std.proofs.lemmas.Nat.{pow_pos, and_mask}
use Rattle.std.proofs.lemmas.Nat.Bits.{and_pow}
use Rattle.std.proofs.lemmas.Simd.{bit_mask_l, bitmask_splat, mask_l-lt, get_or-zip2, length-zip2, get_or-replicate, length-replicate, tops_compared, get_or-sel_l, below_from_Fits, get_or_wider, get_or_narrower, Each1-from_get_or, Each2-of}
use Rattle.std.specs.Int.{Width, w8, byte_at}
use lib.Lanes.{mask_l, zip2, sel_l, top, Each1, Each2, number_l, digits_l}
use mir.Val.{bits, hbits}
use Rattle.rv_model.specs.elements.Elements.{element}
use Rattle.rv_model.proofs.element_lemmas.Writes.{byte_at-is}
use Rattle.lane_arith.proofs.MaskBits.{low_bit}

-- ---- elements and bytes

pub wider : (k n : ℕ) (xs : List ℕ) → Each1 (Fits w8) xs → (i : ℕ) → i < n → get_or (digits_l (256 ^ k) n (number_l 256 xs)) i 0 ≡ element k xs i
wider k n xs f i h = get_or_wider 256 k (256 ^ k) n xs i refl (below_from_Fits w8 xs f) h

pub narrower : (w : Width) (k n : ℕ) (xs : List ℕ) → 2 ^ bits w ≡ 256 ^ k → Each1 (Fits w) xs → (i m : ℕ) → m < k → k * i + m < n
    → get_or (digits_l 256 n (number_l (2 ^ bits w) xs)) (k * i + m) 0 ≡ byte_at m (get_or xs i 0)
narrower w k n xs e f i m h l = get_or_narrower (2 ^ bits w) k 256 n xs i m e (below_from_Fits w xs f) h l ∙ sym (byte_at-is m (get_or xs i 0))

pub digit_below : (p n x i : ℕ) → 0 < p → i < n → get_or (digits_l p n x) i 0 < p
digit_below p zero x i some h = absurd (omega arith)
digit_below p (suc n) x zero some h = mod-lt x some
digit_below p (suc n) x (suc i) some h = digit_below p n (x / p) i some (omega arith)

-- ---- masks

-- the element that `select` returns for the result of a comparison
pub chosen_by : (w : Width) (t : ℕ → ℕ → Bool) (us vs xs ys : List ℕ) (n k : ℕ) → length us ≡ n → length vs ≡ n → length xs ≡ n → length ys ≡ n → k < n
    → get_or (sel_l (map (top (hbits w)) (zip2 (λ a b. cond (t a b) (2 ^ bits w - 1) 0) us vs)) xs ys) k 0 ≡ cond (t (get_or us k 0) (get_or vs k 0)) (get_or xs k 0) (get_or ys k 0)
chosen_by w t us vs xs ys n k la lb lx ly h =
    let lt : length (zip2 t us vs) ≡ n = length-zip2 t us vs (la ∙ sym lb) ∙ la in
    let at : get_or (zip2 t us vs) k false ≡ t (get_or us k 0) (get_or vs k 0) = get_or-zip2 t us vs k 0 0 false (omega arith) (omega arith) in
    rw (tops_compared w t us vs, get_or-sel_l (zip2 t us vs) xs ys k 0 (omega arith) (omega arith) (omega arith), at) refl

-- the same for a comparison with 0
pub selected : (w : Width) (ms xs ys : List ℕ) (n : ℕ) → length ms ≡ n → length xs ≡ n → length ys ≡ n → (i : ℕ) → i < n
    → get_or (sel_l (map (top (hbits w)) (zip2 (λ a b. cond (eqb a b) (2 ^ bits w - 1) 0) ms (replicate n 0))) xs ys) i 0 ≡ cond (eqb (get_or ms i 0) 0) (get_or xs i 0) (get_or ys i 0)
selected w ms xs ys n lm lx ly i h =
    chosen_by w eqb ms (replicate n 0) xs ys n i lm (length-replicate n 0) lx ly h
    ∙ ap (λ z. cond (eqb (get_or ms i 0) z) (get_or xs i 0) (get_or ys i 0)) (get_or-replicate n i 0 0 h)

above_one : (w : Width) → 1 < 2 ^ bits w
above_one w8 = lit< tt
above_one _ = lit< tt

-- an element of the mask that a comparison returns
pub compared : (w : Width) (t : ℕ → ℕ → Bool) (xs ys : List ℕ) (n : ℕ) → length xs ≡ n → length ys ≡ n → (i : ℕ) → i < n
    → eqb (get_or (sel_l (map (top (hbits w)) (zip2 (λ a b. cond (t a b) (2 ^ bits w - 1) 0) xs ys)) (replicate n (2 ^ bits w - 1)) (replicate n 0)) i 0) 0 ≡ not (t (get_or xs i 0) (get_or ys i 0))
compared w t xs ys n lx ly i h =
    let all : ℕ = 2 ^ bits w - 1 in
    let none : ℕ = 0 in
    rw (chosen_by w t xs ys (replicate n all) (replicate n none) n i lx ly (length-replicate n all) (length-replicate n none) h, get_or-replicate n i all 0 h, get_or-replicate n i none 0 h)
    (show (t (get_or xs i 0) (get_or ys i 0)))
  where
    show : (r : Bool) → eqb (cond r (2 ^ bits w - 1) 0) 0 ≡ not r
    show true = let more : 1 < 2 ^ bits w = above_one w in let some : 0 < 2 ^ bits w - 1 = omega arith in grind (arith, nat_tests)
    show false = refl

-- a bit mask of the elements of a mask that are not 0
abbrev differs : ℕ → ℕ → Bool
differs a b = not (eqb a b)

abbrev known : Width → List ℕ → ℕ → ℕ
known w xs n = mask_l (map (top (hbits w)) (zip2 (λ a b. cond (differs a b) (2 ^ bits w - 1) 0) xs (replicate n 0))) % 2 ^ 64

known_is : (w : Width) (xs : List ℕ) (n : ℕ) → length xs ≡ n → n ≤ 64 → known w xs n ≡ mask_l (map (λ x. differs x 0) xs)
known_is w xs n lx few = bitmask_splat w differs xs n 0 lx few

pub known_bit : (w : Width) (xs : List ℕ) (n : ℕ) → length xs ≡ n → n ≤ 64 → (i : ℕ) → i < n → eqb (known w xs n / 2 ^ i % 2) 0 ≡ eqb (get_or xs i 0) 0
known_bit w xs n lx few i h =
    let at : get_or (map (λ x. differs x 0) xs) i false ≡ differs (get_or xs i 0) 0 = get_or-map (λ x. differs x 0) xs i 0 false (omega arith) in
    rw (known_is w xs n lx few, bit_mask_l (map (λ x. differs x 0) xs) i, at) (show (eqb (get_or xs i 0) 0))
  where
    show : (r : Bool) → eqb (cond (not r) 1 0) 0 ≡ r
    show true = refl
    show false = refl

pub known_below : (w : Width) (xs : List ℕ) (n : ℕ) → length xs ≡ n → n ≤ 64 → known w xs n < 2 ^ n
known_below w xs n lx few =
    let long : length (map (λ x. differs x 0) xs) ≡ n = length-map xs (λ x. differs x 0) ∙ lx in
    let below : mask_l (map (λ x. differs x 0) xs) < 2 ^ length (map (λ x. differs x 0) xs) = mask_l-lt (map (λ x. differs x 0) xs) in
    rw (known_is w xs n lx few) (rw long at below)

flag : (x p : ℕ) → 0 < p → eqb (x * p) 0 ≡ eqb x 0
flag zero p h = ap (λ y. eqb y 0) (zero-mul p)
flag (suc x) p h = let more : 0 < suc x * p = omega (arith, suc-mul x p) in grind (arith, nat_tests)

-- a test of each number below n, as a computable function
abbrev pub all_below : (ℕ → Bool) → ℕ → Bool
all_below p zero = true
all_below p (suc n) = p n && all_below p n

pub every_below : (p : ℕ → Bool) (n : ℕ) → all_below p n ≡ true → (i : ℕ) → i < n → p i ≡ true
every_below p zero h i l = absurd (omega arith)
every_below p (suc n) h i l = go (p n) refl h (λ k low. every_below p n k i low)
  where
    go : (b : Bool) → p n ≡ b → (b && all_below p n) ≡ true → (all_below p n ≡ true → i < n → p i ≡ true) → p i ≡ true
    go false e k rest = absurd (false≢true k)
    go true e k rest = elim (cases_lt i n) [
      | inl low ↦ rest k low
      | inr top ↦ let is : i ≡ n = omega arith in rw is e
    ]

-- element i of a mask, computed from the low bits of a word and a table of powers of 2
pub chosen : (word low b : ℕ) (table : List ℕ) (n : ℕ) → low ≡ word % 2 ^ b → n ≤ b → length table ≡ n → all_below (λ k. eqb (get_or table k 0) (2 ^ k)) n ≡ true → (i : ℕ) → i < n
    → eqb (get_or (zip2 bit_and (replicate n low) table) i 0) 0 ≡ eqb (word / 2 ^ i % 2) 0
chosen word low b table n is few long powers i h =
    let e : get_or table i 0 ≡ 2 ^ i = eqb-true (get_or table i 0) (2 ^ i) (every_below (λ k. eqb (get_or table k 0) (2 ^ k)) n powers i h) in
    let at : get_or (zip2 bit_and (replicate n low) table) i 0 ≡ bit_and (get_or (replicate n low) i 0) (get_or table i 0) =
    get_or-zip2 bit_and (replicate n low) table i 0 0 0 (omega (arith, length-replicate n low)) (omega arith) in
    rw (at, get_or-replicate n i low 0 h, e, and_pow low i)
    (flag (low / 2 ^ i % 2) (2 ^ i) (pow_pos i) ∙ ap (λ x. eqb (x / 2 ^ i % 2) 0) is ∙ ap (λ x. eqb x 0) (low_bit word b i (omega arith)))

-- the same for elements of one byte, where eight elements share a byte of the word
pub chosen_bytes : (word : ℕ) (at bs : List ℕ) → word < 2 ^ 64 → length at ≡ 32 → length bs ≡ 32
    → all_below (λ k. eqb (get_or at k 0) (k / 8)) 32 ≡ true → all_below (λ k. eqb (get_or bs k 0) (2 ^ (k % 8))) 32 ≡ true → (i : ℕ) → i < 32
    → eqb (get_or (zip2 bit_and (map (λ k. get_or (digits_l 256 8 (number_l (2 ^ 64) (word ∷ []))) k 0) at) bs) i 0) 0 ≡ eqb (word / 2 ^ i % 2) 0
chosen_bytes word at bs small la lb ta tb i h =
    let d = digits_l 256 8 (number_l (2 ^ 64) (word ∷ [])) in
    let pick : ℕ → ℕ = λ k. get_or d k 0 in
    let q : get_or at i 0 ≡ i / 8 = eqb-true (get_or at i 0) (i / 8) (every_below (λ k. eqb (get_or at k 0) (k / 8)) 32 ta i h) in
    let r : get_or bs i 0 ≡ 2 ^ (i % 8) = eqb-true (get_or bs i 0) (2 ^ (i % 8)) (every_below (λ k. eqb (get_or bs k 0) (2 ^ (k % 8))) 32 tb i h) in
    let whole : 256 ^ (i / 8) * 2 ^ (i % 8) ≡ 2 ^ i = eqb-true (256 ^ (i / 8) * 2 ^ (i % 8)) (2 ^ i) (every_below (λ k. eqb (256 ^ (k / 8) * 2 ^ (k % 8)) (2 ^ k)) 32 refl i h) in
    let lane : get_or (zip2 bit_and (map pick at) bs) i 0 ≡ bit_and (get_or (map pick at) i 0) (get_or bs i 0) = get_or-zip2 bit_and (map pick at) bs i 0 0 0 (omega (arith, length-map at pick)) (omega arith) in
    let byte : get_or (map pick at) i 0 ≡ word / 256 ^ (i / 8) % 256 =
    get_or-map pick at i 0 0 (omega arith) ∙ ap pick (q ∙ sym (zero-add (i / 8))) ∙ get_or_narrower (2 ^ 64) 8 256 8 (word ∷ []) 0 (i / 8) refl (small, tt) (omega arith) (omega arith) in
    rw (lane, byte, r, and_pow (word / 256 ^ (i / 8) % 256) (i % 8), low_bit (word / 256 ^ (i / 8)) 8 (i % 8) (omega arith), div-div-eq-div-mul word (256 ^ (i / 8)) (2 ^ (i % 8)), whole)
    (flag (word / 2 ^ i % 2) (2 ^ (i % 8)) (pow_pos (i % 8)))

-- ---- shifts

-- shift amounts modulo the width
amount : (w : Width) (k : ℕ) (ys : List ℕ) (n : ℕ) → bits w ≡ 2 ^ k → length ys ≡ n → (i : ℕ) → i < n
    → get_or (zip2 bit_and ys (replicate n (bits w - 1))) i 0 ≡ get_or ys i 0 % bits w
amount w k ys n e ly i h =
    let at : get_or (zip2 bit_and ys (replicate n (bits w - 1))) i 0 ≡ bit_and (get_or ys i 0) (get_or (replicate n (bits w - 1)) i 0) =
    get_or-zip2 bit_and ys (replicate n (bits w - 1)) i 0 0 0 (omega arith) (omega (arith, length-replicate n (bits w - 1))) in
    at ∙ ap (bit_and (get_or ys i 0)) (get_or-replicate n i (bits w - 1) 0 h) ∙ ap (λ b. bit_and (get_or ys i 0) (b - 1)) e ∙ and_mask (get_or ys i 0) k ∙ ap (λ b. get_or ys i 0 % b) (sym e)

long_amounts : (w : Width) (ys : List ℕ) (n : ℕ) → length ys ≡ n → length (zip2 bit_and ys (replicate n (bits w - 1))) ≡ n
long_amounts w ys n ly = length-zip2 bit_and ys (replicate n (bits w - 1)) (ly ∙ sym (length-replicate n (bits w - 1))) ∙ ly

pub amounts_fit : (w : Width) (k : ℕ) (xs ys : List ℕ) (n : ℕ) → bits w ≡ 2 ^ k → length ys ≡ n → Each1 (Fits w) xs
    → Each2 (λ (a b : ℕ). b < bits w) xs (zip2 bit_and ys (replicate n (bits w - 1)))
amounts_fit w k xs ys n e ly fits =
    let by = zip2 bit_and ys (replicate n (bits w - 1)) in
    Each2-of (Fits w) (λ b. b < bits w) (λ a b. b < bits w) (λ a b p q. q) xs by fits
    (Each1-from_get_or (λ b. b < bits w) by 0 (λ i h.
    rw (amount w k ys n e ly i (omega (arith, long_amounts w ys n ly, h))) (mod-lt (get_or ys i 0) (rw e (pow_pos k)))))

pub shifted_left : (w : Width) (k : ℕ) (xs ys : List ℕ) (n : ℕ) → bits w ≡ 2 ^ k → length xs ≡ n → length ys ≡ n → (i : ℕ) → i < n
    → get_or (zip2 (λ x y. x * 2 ^ y % 2 ^ bits w) xs (zip2 bit_and ys (replicate n (bits w - 1)))) i 0 ≡ get_or xs i 0 * 2 ^ (get_or ys i 0 % bits w) % 2 ^ bits w % 2 ^ bits w
shifted_left w k xs ys n e lx ly i h =
    let by = zip2 bit_and ys (replicate n (bits w - 1)) in
    let at : get_or (zip2 (λ x y. x * 2 ^ y % 2 ^ bits w) xs by) i 0 ≡ get_or xs i 0 * 2 ^ get_or by i 0 % 2 ^ bits w =
    get_or-zip2 (λ x y. x * 2 ^ y % 2 ^ bits w) xs by i 0 0 0 (omega arith) (omega (arith, long_amounts w ys n ly)) in
    rw (at, amount w k ys n e ly i h) (sym (mod-eq_of_lt (mod-lt (get_or xs i 0 * 2 ^ (get_or ys i 0 % bits w)) (pow_pos (bits w)))))

pub shifted_right : (w : Width) (k : ℕ) (xs ys : List ℕ) (n : ℕ) → bits w ≡ 2 ^ k → length xs ≡ n → length ys ≡ n → (i : ℕ) → i < n
    → get_or (zip2 (λ x y. x / 2 ^ y) xs (zip2 bit_and ys (replicate n (bits w - 1)))) i 0 ≡ get_or xs i 0 / 2 ^ (get_or ys i 0 % bits w)
shifted_right w k xs ys n e lx ly i h =
    let by = zip2 bit_and ys (replicate n (bits w - 1)) in
    let at : get_or (zip2 (λ x y. x / 2 ^ y) xs by) i 0 ≡ get_or xs i 0 / 2 ^ get_or by i 0 =
    get_or-zip2 (λ x y. x / 2 ^ y) xs by i 0 0 0 (omega arith) (omega (arith, long_amounts w ys n ly)) in
    rw (at, amount w k ys n e ly i h) refl

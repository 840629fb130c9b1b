-- Hexadecimal digits of bytes, and of concatenated bytes.
use Rattle.std.proofs.Common.{◌≡◌, refl, sym, ap, ◌∙◌, ℕ, suc, ◌+◌, ◌/◌, ◌%◌, ◌<◌, cond, nat_lt, bit_and, List, [], ◌∷◌, ◌++◌, length, take, drop, append_assoc, arith}
use Rattle.std.specs.Int.{to_be_bytes, w32, w64}
use Rattle.std.specs.Prelude.{reverse, slice_index}
use Rattle.std.proofs.lemmas.List.{reverse-append, take-append-drop, drop-drop}
use Rattle.std.proofs.lemmas.Nat.{and_mask}
use lib.Lanes.{top}
use Rattle.hex.specs.Hex.{encode_lower, encode_with, lower_digits}
use Rattle.commit_log.specs.LineTexts.{highest_first}

-- ---- one digit

-- the digit as the lanes compute it
abbrev pub digit_of : ℕ → ℕ
digit_of n = (n + cond (top 7 (cond (nat_lt n 10) 255 0)) 48 87) % 256

digit_is : (n : ℕ) → n < 16 → digit_of n ≡ slice_index lower_digits n
digit_is (suc (suc (suc (suc (suc (suc (suc (suc (suc (suc (suc (suc (suc (suc (suc (suc n)))))))))))))))) h = absurd (omega (arith, h))
digit_is _ h = refl

-- ---- the digits of bytes

abbrev pub digits_by : List ℕ → List ℕ
digits_by [] = []
digits_by (b ∷ bs) = digit_of (b / 16) ∷ digit_of (bit_and b 15) ∷ digits_by bs

-- each item is a byte
abbrev pub AreBytes : List ℕ → Type 0
AreBytes [] = Unit {0}
AreBytes (b ∷ bs) = (b < 256) × AreBytes bs

pub digits_are : (bs : List ℕ) → AreBytes bs → digits_by bs ≡ encode_lower bs
unfolding encode_with
digits_are [] h = refl
digits_are (b ∷ bs) h =
    let high : b / 16 < 16 = omega (arith, h.0) in
    let low : b % 16 < 16 = omega arith in
    ap (λ (n : ℕ). n ∷ digit_of (bit_and b 15) ∷ digits_by bs) (digit_is (b / 16) high)
    ∙ ap (λ (n : ℕ). slice_index lower_digits (b / 16) ∷ n ∷ digits_by bs) (ap digit_of (and_mask b 4) ∙ digit_is (b % 16) low)
    ∙ ap (λ (l : List ℕ). slice_index lower_digits (b / 16) ∷ slice_index lower_digits (b % 16) ∷ l) (digits_are bs h.1)

-- ---- lists of a known length

pub list_of_8 : (xs : List ℕ) → length xs ≡ 8 → xs ≡ slice_index xs 0 ∷ slice_index xs 1 ∷ slice_index xs 2 ∷ slice_index xs 3 ∷ slice_index xs 4 ∷ slice_index xs 5 ∷ slice_index xs 6 ∷ slice_index xs 7 ∷ []
list_of_8 (a0 ∷ a1 ∷ a2 ∷ a3 ∷ a4 ∷ a5 ∷ a6 ∷ a7 ∷ []) h = refl
list_of_8 _ h = absurd (omega (arith, h))

-- ---- the last digits

pub low_digits : (n : ℕ) → take 8 (drop 8 (encode_lower (to_be_bytes w64 n))) ≡ encode_lower (to_be_bytes w32 n)
unfolding encode_with
low_digits n = refl

pub behind_zeros : (bs : List ℕ) → length bs ≡ 4
    → take 8 (drop 8 (encode_lower (0 ∷ 0 ∷ 0 ∷ 0 ∷ slice_index bs 3 ∷ slice_index bs 2 ∷ slice_index bs 1 ∷ slice_index bs 0 ∷ []))) ≡ highest_first bs
unfolding encode_with
behind_zeros (a0 ∷ a1 ∷ a2 ∷ a3 ∷ []) h = refl
behind_zeros _ h = absurd (omega (arith, h))

-- ---- concatenated bytes

pub encode-append : (xs ys : List ℕ) → encode_lower (xs ++ ys) ≡ encode_lower xs ++ encode_lower ys
unfolding encode_with
encode-append [] ys = refl
encode-append (x ∷ xs) ys =
    ap (λ (l : List ℕ). slice_index lower_digits (x / 16) ∷ slice_index lower_digits (x % 16) ∷ l) (encode-append xs ys)

pub highest_first-append : (xs ys : List ℕ) → highest_first (xs ++ ys) ≡ highest_first ys ++ highest_first xs
highest_first-append xs ys = ap encode_lower (reverse-append xs ys) ∙ encode-append (reverse ys) (reverse xs)

-- the digits of the bytes from index n on, followed by those of the first n bytes
split_at : (n : ℕ) (xs : List ℕ) → highest_first xs ≡ highest_first (drop n xs) ++ highest_first (take n xs)
split_at n xs = ap highest_first (sym (take-append-drop n xs)) ∙ highest_first-append (take n xs) (drop n xs)

-- a text to which the digits of the last bytes are appended, and then those of the 8 bytes before them
pub part_pushed : (n : ℕ) (text mid new bs : List ℕ) → mid ≡ text ++ highest_first (drop (n + 8) bs) → new ≡ mid ++ highest_first (take 8 (drop n bs))
    → new ≡ text ++ highest_first (drop n bs)
part_pushed n text mid new bs last e =
    let h : List ℕ → List ℕ = highest_first in
    e ∙ ap (λ (l : List ℕ). l ++ h (take 8 (drop n bs))) (last ∙ ap (λ (l : List ℕ). text ++ h l) (sym (drop-drop 8 n bs)))
    ∙ append_assoc text (h (drop 8 (drop n bs))) (h (take 8 (drop n bs))) ∙ ap (λ (l : List ℕ). text ++ l) (sym (split_at 8 (drop n bs)))

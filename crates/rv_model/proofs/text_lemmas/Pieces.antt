-- Texts without a newline: numbers, and concatenations of such texts.
use Rattle.std.proofs.Common.{◌≡◌, ℕ, zero, suc, ◌+◌, ◌/◌, ◌%◌, List, [], ◌∷◌, ◌++◌, get_or, true, false, refl, ap, arith, eqb}
use Rattle.std.specs.Prelude.{not, decimal, codes, ◌==◌, nat_lt, flat_map}
use Rattle.std.specs.Int.{to_be_bytes, w32, w64}
use Rattle.std.proofs.lemmas.Bool.Decides.{nat_tests}
use Rattle.std.specs.Fmt.{digits, digits_onto, digit_glyph}
use Rattle.std.proofs.lemmas.Bool.{and_parts, and_from}
use Rattle.hex.specs.Hex.{encode_lower, encode_with, lower_digits}
use Rattle.rv_model.specs.commands.Printing.{hex8, hex16}
use Rattle.rv_model.specs.text.Lines.{is_newline}
use Rattle.rv_model.proofs.Choices.{of_either}
use Rattle.rv_model.proofs.text_lemmas.Newlines.{is_line, IsLine}

-- the concatenation of two texts without a newline has no newline
pub is_line-append : (a b : List ℕ) → IsLine a → IsLine b → IsLine (a ++ b)
is_line-append [] b h k = k
is_line-append (c ∷ a) b h k =
    let two = and_parts (not (is_newline c)) (is_line a) h in
    and_from (not (is_newline c)) (is_line (a ++ b)) two.0 (is_line-append a b two.1 k)

digit_line : (t : List ℕ) (k : ℕ) → IsLine t → not (is_newline (get_or t k 0)) ≡ true
digit_line [] k h = refl
digit_line (c ∷ t) zero h = (and_parts (not (is_newline c)) (is_line t) h).0
digit_line (c ∷ t) (suc k) h = digit_line t k (and_parts (not (is_newline c)) (is_line t) h).1

pub encode_line : (t bytes : List ℕ) → IsLine t → IsLine (encode_with t bytes)
unfolding encode_with
encode_line t [] h = refl
encode_line t (b ∷ bs) h = search (and_from, digit_line, encode_line t bs h)

pub hex8_line : (n : ℕ) → IsLine (hex8 n)
unfolding hex8
hex8_line n = encode_line lower_digits (to_be_bytes w32 n) refl

pub hex16_line : (n : ℕ) → IsLine (hex16 n)
unfolding hex16
hex16_line n = encode_line lower_digits (to_be_bytes w64 n) refl

digits_line : (k n : ℕ) (after : List ℕ) → IsLine after → IsLine (digits_onto k 10 false n after)
digits_line zero n after h = h
digits_line (suc k) n after h =
    let line = and_from _ _ (glyph (n % 10)) h in
    of_either IsLine (n / 10 == 0) _ _ line (digits_line k (n / 10) (digit_glyph false (n % 10) ∷ after) line)
  where
    small : (d : ℕ) → not (eqb (48 + d) 10) ≡ true
    small d = let e : eqb (48 + d) 10 ≡ false = grind (arith, nat_tests) in ap not e

    large : (d : ℕ) → not (eqb (87 + d) 10) ≡ true
    large d = let e : eqb (87 + d) 10 ≡ false = grind (arith, nat_tests) in ap not e

    glyph : (d : ℕ) → not (is_newline (digit_glyph false d)) ≡ true
    glyph d = of_either (λ c. not (is_newline c) ≡ true) (nat_lt d 10) _ _ (small d) (large d)

pub decimal_line : (n : ℕ) → IsLine (decimal n)
unfolding digits
decimal_line n = digits_line 64 n [] refl

-- ---- concatenations of texts without a newline

abbrev pub Piece : Type 0
Piece = (text : List ℕ) × IsLine text

infixl 60 ◌▸◌
abbrev pub ◌▸◌ : Piece → Piece → Piece
a ▸ b = (a.0 ++ b.0, is_line-append a.0 b.0 a.1 b.1)

abbrev pub hexadecimal : ℕ → Piece
hexadecimal n = (hex16 n, hex16_line n)

abbrev pub short_hexadecimal : ℕ → Piece
short_hexadecimal n = (hex8 n, hex8_line n)

abbrev pub number : ℕ → Piece
number n = (decimal n, decimal_line n)

abbrev pub bytes : List ℕ → Piece
bytes all = (encode_lower all, encode_line lower_digits all refl)

abbrev pub space : Piece
space = (codes " ", refl)

pub flat_map_line : {A : Type 0} (f : A → List ℕ) (xs : List A) → ((x : A) → IsLine (f x)) → IsLine (flat_map f xs)
flat_map_line f [] h = refl
flat_map_line f (x ∷ xs) h = is_line-append (f x) (flat_map f xs) (h x) (flat_map_line f xs h)

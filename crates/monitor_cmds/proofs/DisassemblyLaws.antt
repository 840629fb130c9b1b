-- The lines of a disassembly, printed one after another
use Rattle.std.proofs.Common.{◌≡◌, ℕ, ◌+◌, ◌*◌, ◌%◌, ◌^◌, List, [], ◌∷◌, ◌++◌, refl, sym, ap, ap₂, ◌∙◌, append_assoc, append-nil, arith}
use Rattle.std.specs.Int.{byte_at}
use Rattle.std.specs.Prelude.{map}
use Rattle.std.specs.List.{range_with_len}
use Rattle.std.proofs.lemmas.List.FromFn.{map-range_with_len_more}
use Rattle.hex.specs.Hex.{encode_lower}
use Rattle.rv_model.specs.commands.Programs.{asm_line, dis_line, dis_lines, word_in}
use Rattle.rv_model.specs.commands.Printing.{hex16}
use Rattle.rv_model.specs.text.Lines.{tagged, text}

-- a number and its low 64 bits have the same lowest eight bytes
byte_0_wraps : (n : ℕ) → byte_at 0 (n % 2 ^ 64) ≡ byte_at 0 n
byte_0_wraps n = omega arith

byte_1_wraps : (n : ℕ) → byte_at 1 (n % 2 ^ 64) ≡ byte_at 1 n
byte_1_wraps n = omega arith

byte_2_wraps : (n : ℕ) → byte_at 2 (n % 2 ^ 64) ≡ byte_at 2 n
byte_2_wraps n = omega arith

byte_3_wraps : (n : ℕ) → byte_at 3 (n % 2 ^ 64) ≡ byte_at 3 n
byte_3_wraps n = omega arith

byte_4_wraps : (n : ℕ) → byte_at 4 (n % 2 ^ 64) ≡ byte_at 4 n
byte_4_wraps n = omega arith

byte_5_wraps : (n : ℕ) → byte_at 5 (n % 2 ^ 64) ≡ byte_at 5 n
byte_5_wraps n = omega arith

byte_6_wraps : (n : ℕ) → byte_at 6 (n % 2 ^ 64) ≡ byte_at 6 n
byte_6_wraps n = omega arith

byte_7_wraps : (n : ℕ) → byte_at 7 (n % 2 ^ 64) ≡ byte_at 7 n
byte_7_wraps n = omega arith

hex16_wraps : (n : ℕ) → hex16 (n % 2 ^ 64) ≡ hex16 n
unfolding hex16
hex16_wraps n = ap encode_lower (rw (byte_7_wraps n, byte_6_wraps n, byte_5_wraps n, byte_4_wraps n, byte_3_wraps n, byte_2_wraps n, byte_1_wraps n, byte_0_wraps n) refl)

dis_line_wraps : (n word : ℕ) → dis_line (n % 2 ^ 64) word ≡ dis_line n word
unfolding dis_line asm_line
dis_line_wraps n word = rw (hex16_wraps n) refl

text_of_a_line_more : (tag : ℕ) (lines : List (List ℕ)) (line : List ℕ) → text tag (lines ++ line ∷ []) ≡ text tag lines ++ tagged tag line
text_of_a_line_more tag [] line = append-nil (tagged tag line)
text_of_a_line_more tag (first ∷ lines) line =
    ap (λ t. tagged tag first ++ t) (text_of_a_line_more tag lines line) ∙ sym (append_assoc (tagged tag first) (text tag lines) (tagged tag line))

-- the line of the next word
pub dis_lines_with_a_word_more : (tag addr n : ℕ) (bytes before after : List ℕ) (at word : ℕ) (whole : List ℕ) → at ≡ (addr + 4 * n) % 2 ^ 64 → word ≡ word_in bytes n
    → after ≡ before ++ tagged tag (dis_line at word) → before ≡ whole ++ text tag (dis_lines addr n bytes) → after ≡ whole ++ text tag (dis_lines addr (n + 1) bytes)
unfolding dis_lines
dis_lines_with_a_word_more tag addr n bytes before after at word whole at_is word_is is so_far =
    let line : ℕ → List ℕ = λ i. dis_line (addr + 4 * i) (word_in bytes i) in
    let here : dis_line at word ≡ line n = ap₂ dis_line at_is word_is ∙ dis_line_wraps (addr + 4 * n) (word_in bytes n) in
    is
    ∙ ap (λ l. before ++ tagged tag l) here
    ∙ ap (λ b. b ++ tagged tag (line n)) so_far
    ∙ append_assoc whole (text tag (map line (range_with_len 0 n))) (tagged tag (line n))
    ∙ ap (λ t. whole ++ t) (sym (text_of_a_line_more tag (map line (range_with_len 0 n)) (line n)))
    ∙ ap (λ lines. whole ++ text tag lines) (sym (map-range_with_len_more line 0 n n (omega arith)))

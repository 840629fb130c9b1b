-- Replies that aren't refusals, by their first letter.
use Rattle.std.proofs.Common.{◌≡◌, ℕ, zero, suc, ◌/◌, List, [], ◌∷◌, ◌++◌, get_or, Bool, true, ◌&&◌, eqb, refl, arith}
use Rattle.std.specs.Prelude.{not, codes}
use Rattle.std.specs.Int.{to_be_bytes, w64}
use Rattle.std.proofs.lemmas.Bool.{and_from, and_parts}
use Rattle.std.proofs.lemmas.Bool.Decides.{nat_tests}
use Rattle.hex.specs.Hex.{encode_with, lower_digits}
use Rattle.rv_model.specs.declared.step.step_end.Stop.{Stop}
use Rattle.rv_model.specs.assembler.Table.{canonical}
use Rattle.rv_model.specs.commands.Printing.{hex8, hex16, refused, stop_line}
use Rattle.rv_model.specs.commands.Programs.{asm_line, dis_line}
use Rattle.rv_model.specs.machine.Refusals.{ReasonsAreRefusals}
use Rattle.rv_model.specs.machine.UserMachine.{replies}

-- ---- replies that aren't refusals

-- the reply doesn't start with the letter of refusals
abbrev pub is_plain : List ℕ → Bool
is_plain answer = not (eqb (get_or answer 0 0) 69)

abbrev pub are_plain : List (List ℕ) → Bool
are_plain [] = true
are_plain (answer ∷ replies) = is_plain answer && are_plain replies

pub plain_line : (line : List ℕ) → is_plain line ≡ true → are_plain (line ∷ []) ≡ true
plain_line line h = and_from (is_plain line) true h refl

pub reasons_are_refusals : ReasonsAreRefusals
unfolding refused
reasons_are_refusals h = search (arith, nat_tests)

-- ---- hexadecimal digits are in lower case

-- no digit of the list is the letter of refusals
abbrev are_plain_digits : List ℕ → Bool
are_plain_digits [] = true
are_plain_digits (c ∷ t) = not (eqb c 69) && are_plain_digits t

digit_plain : (t : List ℕ) (k : ℕ) → are_plain_digits t ≡ true → not (eqb (get_or t k 0) 69) ≡ true
digit_plain [] k h = refl
digit_plain (c ∷ t) zero h = (and_parts (not (eqb c 69)) (are_plain_digits t) h).0
digit_plain (c ∷ t) (suc k) h = digit_plain t k (and_parts (not (eqb c 69)) (are_plain_digits t) h).1

encoded_plain : (t bytes : List ℕ) → are_plain_digits t ≡ true → is_plain (encode_with t bytes) ≡ true
unfolding encode_with
encoded_plain t [] h = refl
encoded_plain t (b ∷ bs) h = digit_plain t (b / 16) h

hex16_plain : (n : ℕ) → is_plain (hex16 n) ≡ true
unfolding hex16
hex16_plain n = encoded_plain lower_digits (to_be_bytes w64 n) refl

-- text after a space doesn't matter
spaced_plain : (a rest : List ℕ) → is_plain a ≡ true → is_plain (a ++ codes " " ++ rest) ≡ true
spaced_plain [] rest h = refl
spaced_plain (c ∷ a) rest h = h

pub asm_plain : (addr word : ℕ) → is_plain (asm_line addr word) ≡ true
unfolding asm_line
asm_plain addr word = spaced_plain (hex16 addr) (hex8 word) (hex16_plain addr)

pub dis_plain : (addr word : ℕ) → is_plain (dis_line addr word) ≡ true
unfolding dis_line
dis_plain addr word = spaced_plain (asm_line addr word) (canonical word) (asm_plain addr word)

pub stop_line_plain : (pc : ℕ) (reason : Stop) → is_plain (stop_line pc reason) ≡ true
unfolding stop_line
stop_line_plain pc reason = search (arith, nat_tests)

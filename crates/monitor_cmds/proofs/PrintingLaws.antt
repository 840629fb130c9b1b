-- A text printed in pieces
use Rattle.std.proofs.Common.{◌≡◌, ℕ, suc, ◌+◌, ◌-◌, ◌/◌, ◌<◌, List, ◌++◌, refl, sym, ap, ◌∙◌, append_assoc, arith}
use Rattle.std.specs.Prelude.{flat_map}
use Rattle.std.specs.List.{range_with_len}
use Rattle.std.proofs.lemmas.Grind.{common_steps}
use Rattle.rv_model.specs.declared.vector.types.Sew.{Sew}
use Rattle.rv_model.specs.declared.vector.types.Sew.TheVariants.{E8}
use Rattle.rv_model.specs.vector.Groups.{sew_bits}

-- after printing a piece, the rest completes the whole text
whole_stays_after_a_piece : (before piece after rest whole : List ℕ) → after ≡ before ++ piece → before ++ (piece ++ rest) ≡ whole → after ++ rest ≡ whole
whole_stays_after_a_piece before piece after rest whole is so_far = ap (λ bytes. bytes ++ rest) is ∙ append_assoc before piece rest ∙ so_far

-- the same for the piece of the next number
pub whole_stays_after_a_number : (f : ℕ → List ℕ) (n i : ℕ) (before after whole : List ℕ) → i < n → after ≡ before ++ f i
    → before ++ flat_map f (range_with_len i (n - i)) ≡ whole → after ++ flat_map f (range_with_len (i + 1) (n - (i + 1))) ≡ whole
whole_stays_after_a_number f n i before after whole lt is so_far =
    let rest = flat_map f (range_with_len (i + 1) (n - (i + 1))) in
    let one_more : n - i ≡ suc (n - (i + 1)) = omega arith in
    whole_stays_after_a_piece before (f i) after rest whole is (sym (ap (λ k. before ++ flat_map f (range_with_len i k)) one_more) ∙ so_far)

-- a register has 256 bits, so 32 bytes and 256 bits contain the same number of elements
pub bytes_and_bits_count_the_same_elements : (width : Sew) → 32 / (sew_bits width / 8) ≡ 256 / sew_bits width
bytes_and_bits_count_the_same_elements E8 = refl
bytes_and_bits_count_the_same_elements _ = refl

-- the tactics' rules for joined pieces
pub ruleset joined = (common_steps)

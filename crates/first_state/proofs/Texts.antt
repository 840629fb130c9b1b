-- A text is split into lines.
use Rattle.std.proofs.Common.{◌≡◌, ℕ, suc, ◌+◌, ◌-◌, ◌<◌, ◌≤◌, Bool, Bor, Option, Some, None, List, [], ◌∷◌, length, take, drop, ap, arith}
use Rattle.std.specs.Prelude.{IfSome}
use Rattle.std.specs.Option.{option_map_or}
use Rattle.std.specs.List.{position, position_or_len}
use Rattle.std.proofs.lemmas.Bool.Decides.{nat_tests}
use Rattle.std.proofs.lemmas.List.Splits.{slice_split_none, slice_split_first}
use Rattle.std.proofs.lemmas.List.{take_rest}
use Rattle.std.proofs.lemmas.List.Sums.{fails_before_first}
use Rattle.rv_model.specs.text.Lines.{is_newline, pieces}

-- if a byte satisfies p, `position_or_len` is the index of the first one, which is within the bytes
place_of_first : (p : ℕ → Bool) (bytes : List ℕ) (i : ℕ) → Some i ≡ position p bytes → i ≡ position_or_len p bytes
place_of_first p bytes i is = grind (arith, nat_tests)

first_lies_within : (p : ℕ → Bool) (bytes : List ℕ) (i : ℕ) → Some i ≡ position p bytes → position_or_len p bytes < length bytes
first_lies_within p bytes i is = grind (arith, nat_tests)

-- if no byte satisfies p, `position_or_len` isn't within the bytes
none_lies_within : (p : ℕ → Bool) (bytes : List ℕ) → None ≡ position p bytes → length bytes ≤ position_or_len p bytes
none_lies_within p bytes is = grind (arith, nat_tests)

-- the text before the first newline is the first line
pub lines_with_a_newline : (text : List ℕ) (end : ℕ) → Some end ≡ position is_newline text
    → pieces text ≡ take end text ∷ pieces (take (length text - (end + 1)) (drop (end + 1) text))
lines_with_a_newline text end is =
    let here : end ≡ position_or_len is_newline text = place_of_first is_newline text end is in
    rw (take_rest text (end + 1), here) (slice_split_first is_newline text 0 (first_lies_within is_newline text end is))

-- a text without a newline is one line
pub lines_without_a_newline : (text : List ℕ) → None ≡ position is_newline text → pieces text ≡ text ∷ []
lines_without_a_newline text is =
    let none_passes : length text ≤ position_or_len is_newline text = none_lies_within is_newline text is in
    slice_split_none is_newline text (λ k d lt. fails_before_first is_newline text k d (omega arith))

-- the number of remaining bytes plus 1, or 0 if no text remains
abbrev pub bytes_left : Option (Bor (List ℕ)) → ℕ
bytes_left rest = option_map_or (λ rest. suc (length rest.now)) rest 0

-- after one more line, fewer bytes remain
pub fewer_left : (number most : ℕ) (before after : Option (Bor (List ℕ))) (lines : Bor (List ℕ)) → before ≡ Some lines
    → IfSome after (λ rest. length rest.now < length lines.now) → number + bytes_left before ≤ most → number + 1 + bytes_left after ≤ most
fewer_left number most before None lines is shorter few = let one : bytes_left before ≡ suc (length lines.now) = ap bytes_left is in omega (arith, one, few)
fewer_left number most before (Some rest) lines is shorter few = let one : bytes_left before ≡ suc (length lines.now) = ap bytes_left is in omega (arith, one, few, shorter)

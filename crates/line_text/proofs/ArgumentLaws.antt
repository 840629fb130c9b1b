-- The first argument of a line
use Rattle.std.proofs.Common.{◌≡◌, ℕ, ◌+◌, ◌-◌, ◌<◌, ◌≤◌, Bool, Some, None, List, [], ◌∷◌, length, take, drop, refl, ap, ◌∙◌, arith}
use Rattle.std.specs.List.{slice_split, position, position_or_len, before_first, after_first, filter}
use Rattle.std.proofs.lemmas.Bool.Decides.{nat_tests}
use Rattle.std.proofs.lemmas.List.Splits.{slice_split_none, slice_split_first}
use Rattle.std.proofs.lemmas.List.{take_rest}
use Rattle.std.proofs.lemmas.List.Sums.{fails_before_first}
use Rattle.rv_model.specs.text.Words.{words, is_space, has_bytes}
use Rattle.rv_model.specs.lending.Text.{with_piece}

-- an empty piece is no argument
filter_keeps_a_piece_with_bytes : (piece : List ℕ) (pieces : List (List ℕ)) → filter has_bytes (piece ∷ pieces) ≡ with_piece piece (filter has_bytes pieces)
filter_keeps_a_piece_with_bytes [] pieces = refl
filter_keeps_a_piece_with_bytes (b ∷ bs) pieces = refl

-- the position of a byte that passes the test is `position_or_len`
position_is_position_or_len : (p : ℕ → Bool) (bytes : List ℕ) (i : ℕ) → Some i ≡ position p bytes → i ≡ position_or_len p bytes
position_is_position_or_len p bytes i is = grind (arith, nat_tests)

-- if a byte passes the test, `position_or_len` is within the list
position_lies_within : (p : ℕ → Bool) (bytes : List ℕ) (i : ℕ) → Some i ≡ position p bytes → position_or_len p bytes < length bytes
position_lies_within p bytes i is = grind (arith, nat_tests)

-- if no byte passes the test, `position_or_len` is past the end of the list
no_position_lies_within : (p : ℕ → Bool) (bytes : List ℕ) → None ≡ position p bytes → length bytes ≤ position_or_len p bytes
no_position_lies_within p bytes is = grind (arith, nat_tests)

-- an empty line has no arguments
pub empty_line_has_no_words : (line : List ℕ) → length line ≡ 0 → words line ≡ []
unfolding words
empty_line_has_no_words [] e = refl
empty_line_has_no_words (b ∷ bs) e = absurd (omega arith)

-- a line is cut at its first space
words_cut_at_first_space : (line : List ℕ) → position_or_len is_space line < length line → words line ≡ with_piece (before_first is_space line) (words (after_first is_space line))
unfolding words
words_cut_at_first_space line lt = ap (filter has_bytes) (slice_split_first is_space line 0 lt) ∙ filter_keeps_a_piece_with_bytes (before_first is_space line) (slice_split is_space (after_first is_space line))

-- the bytes before the first space are the first piece
pub words_with_a_space : (line : List ℕ) (end : ℕ) → Some end ≡ position is_space line
    → words line ≡ with_piece (take end line) (words (take (length line - (end + 1)) (drop (end + 1) line)))
words_with_a_space line end is =
    let here : end ≡ position_or_len is_space line = position_is_position_or_len is_space line end is in
    rw (take_rest line (end + 1), here) (words_cut_at_first_space line (position_lies_within is_space line end is))

-- a line without a space has one piece, the whole line
pub words_without_a_space : (line : List ℕ) → None ≡ position is_space line → words line ≡ with_piece line (words [])
unfolding words
words_without_a_space line is =
    let none_passes : length line ≤ position_or_len is_space line = no_position_lies_within is_space line is in
    ap (filter has_bytes) (slice_split_none is_space line (λ k d lt. fails_before_first is_space line k d (omega arith))) ∙ filter_keeps_a_piece_with_bytes line []

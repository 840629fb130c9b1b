-- Texts without a newline.
use Rattle.std.proofs.Common.{◌≡◌, ℕ, List, [], ◌∷◌, Bool, true, ◌&&◌}
use Rattle.std.specs.Prelude.{not}
use Rattle.rv_model.specs.text.Lines.{is_newline}

abbrev pub is_line : List ℕ → Bool
is_line [] = true
is_line (b ∷ bs) = not (is_newline b) && is_line bs

-- no byte is a newline
abbrev pub IsLine : List ℕ → Type 0
IsLine line = is_line line ≡ true

abbrev pub are_lines : List (List ℕ) → Bool
are_lines [] = true
are_lines (line ∷ lines) = is_line line && are_lines lines

abbrev pub AreLines : List (List ℕ) → Type 0
AreLines lines = are_lines lines ≡ true

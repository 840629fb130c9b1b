-- Lines of text, ended by a newline (byte 0A).
use Rattle.std.specs.Prelude.{ℕ, ◌==◌, List, [], ◌∷◌, ◌++◌, Bool}
use Rattle.std.specs.List.{slice_split}

abbrev pub is_newline : ℕ → Bool
is_newline b = b == 10

-- the pieces between the newlines; if the text ends with a newline, the last piece is empty
abbrev pub pieces : List ℕ → List (List ℕ)
pieces text = slice_split is_newline text

-- a line after its tag, a user's digit or a star, and a space; it ends with a newline
abbrev pub tagged : ℕ → List ℕ → List ℕ
tagged tag line = tag ∷ 32 ∷ (line ++ 10 ∷ [])

-- lines with the same tag, one after another
abbrev pub text : ℕ → List (List ℕ) → List ℕ
text tag [] = []
text tag (line ∷ lines) = tagged tag line ++ text tag lines

-- Arguments and numbers of a line, as the command parser represents them.
use Rattle.std.specs.Prelude.{ℕ, min, List, [], ◌∷◌, Option, Some, None}

-- the arguments after a piece, with the piece in front unless it is empty
abbrev pub with_piece : List ℕ → List (List ℕ) → List (List ℕ)
with_piece [] ws = ws
with_piece (b ∷ bs) ws = (b ∷ bs) ∷ ws

-- a number, or the cap in place of a larger one
abbrev pub capped : ℕ → Option ℕ → Option ℕ
capped cap None = None
capped cap (Some n) = Some (min n cap)

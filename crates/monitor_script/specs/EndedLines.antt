-- The lines of a text that end with a newline; more text may follow them
use Rattle.std.specs.Prelude.{ℕ, ◌-◌, List, length, take}
use Rattle.rv_model.specs.text.Lines.{pieces}

-- all pieces between newlines, except the last one
unfoldable pub ended_lines : List ℕ → List (List ℕ)
ended_lines text = take (length (pieces text) - 1) (pieces text)

-- The room of the table of counts
use Rattle.std.specs.Prelude.{ℕ, ◌≤◌, ◌⊎◌, List, length}
use Rattle.recording.specs.declared.row.Row.{Row}

-- No row can be added: the rows have their greatest number, or fill the memory allocated for `room` rows.
abbrev pub AreFull : ℕ → List Row → Type 0
AreFull room rows = (131072 ≤ length rows) ⊎ (room ≤ length rows)

-- The state and the output after a write that failed within a script
use Rattle.std.specs.Prelude.{ℕ, ◌≡◌, ◌<◌, ◌≤◌, List, [], ◌∷◌, ◌++◌, length, take}
use Rattle.monitor_machine.specs.MachineState.{MachineState}
use Rattle.rv_model.specs.machine.Script.{World, after_all, printed_by_line, printed_by_lines, world_after}
use Rattle.rv_model.specs.text.Lines.{pieces}

-- One of the lines in a text's first 16,777,216 bytes has an incomplete reply. The lines before it have been executed,
-- and their replies written completely. This line has also been executed, and a proper prefix of its reply written. It
-- is the last of these lines only if the source reached its end within these bytes.
pub record CutShort (machine : MachineState) (text : List ℕ) (ended : Type 0) (now : World) (took : List ℕ → Type 0) : Type 0 where
  pub before : List (List ℕ)
  pub line : List ℕ
  pub more : List (List ℕ)
  pub count : ℕ
  pub lines : pieces (take 16777216 text) ≡ before ++ line ∷ more
  pub last : more ≡ [] → ended × (length text ≤ 16777216)
  pub world : now ≡ world_after machine.setup (after_all machine.setup machine.world before) line
  pub less : count < length (printed_by_line machine.setup (after_all machine.setup machine.world before) line)
  pub output : took (printed_by_lines machine.setup machine.world before ++ take count (printed_by_line machine.setup (after_all machine.setup machine.world before) line))

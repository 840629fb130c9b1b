-- A script processed byte by byte, as a machine reads it from a source. The contracts of internal functions use these
-- definitions.
use Rattle.std.specs.Prelude.{ℕ, ◌≡◌, ◌<◌, List, [], ◌∷◌, ◌++◌, length, take, if◌then◌else◌}
use Rattle.monitor_machine.specs.MachineState.{MachineState, after_line, line_output}
use Rattle.rv_model.specs.text.Lines.{is_newline}

-- the machine, the unfinished line (its first 1,025 bytes), and the output so far
pub record Fed : Type 0 where
  pub machine : MachineState
  pub line : List ℕ
  pub output : List ℕ

-- a line after appending a byte, truncated to 1,025 bytes, one more than a valid line may have
abbrev pub longer : List ℕ → ℕ → List ℕ
longer line b = take 1025 (line ++ b ∷ [])

-- one byte: a newline ends the line, and any other byte is appended to it
unfoldable pub feed : MachineState → List ℕ → ℕ → Fed
feed m line b =
    if is_newline b then record { machine = after_line m line; line = []; output = line_output m line }
    else record { machine = m; line = longer line b; output = [] }

-- several bytes in order
abbrev pub fed : MachineState → List ℕ → List ℕ → Fed
fed m line [] = record { machine = m; line = line; output = [] }
fed m line (b ∷ bs) =
    let one = feed m line b in
    let rest = fed one.machine one.line bs in
    record { machine = rest.machine; line = rest.line; output = one.output ++ rest.output }

-- the reply to the line before a newline in `bytes` is incomplete: the output ends within this reply, and the machine
-- has executed the line
pub record Cut (m : MachineState) (line bytes : List ℕ) (took : List ℕ → Type 0) (now : MachineState) : Type 0 where
  pub front : List ℕ
  pub back : List ℕ
  pub count : ℕ
  pub newline : bytes ≡ front ++ 10 ∷ back
  pub machine : now ≡ after_line (fed m line front).machine (fed m line front).line
  pub less : count < length (line_output (fed m line front).machine (fed m line front).line)
  pub output : took ((fed m line front).output ++ take count (line_output (fed m line front).machine (fed m line front).line))

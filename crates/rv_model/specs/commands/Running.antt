-- Commands that run instructions, or report the progress and the output of the program: `step`, `go`, `stop`, `state`, `trace` and `out`.
use Rattle.std.specs.Prelude.{ℕ, Bool, true, false, List, [], ◌∷◌, ◌++◌, length, nat_lt, decimal, flat_map, Option, Some, None, if◌then◌else◌, codes}
use Rattle.hex.specs.Hex.{encode_lower}
use Rattle.rv_model.specs.declared.commands.running.RunningCommand.{RunningCommand}
use Rattle.rv_model.specs.declared.commands.running.RunningCommand.TheVariants.{Step, Go, Stop as StopRunning, State, Trace, Out}
use Rattle.rv_model.specs.declared.commands.refusal.Refusal.TheVariants as refusal
use Rattle.rv_model.specs.declared.step.step_end.Stop.{Stop}
use Rattle.rv_model.specs.commands.Arguments.{number_between}
use Rattle.rv_model.specs.commands.Printing.{hex16, listed, stop_line}
use Rattle.rv_model.specs.commands.Reading.{done, meaning_in, one_argument}
use Rattle.rv_model.specs.machine.UserMachine.{steps, Present, Outcome, refuses, replies}

-- ---- step N, where N is 1 to 256 instructions

-- the number of executed instructions, or the cause of a stop; and the program counter
unfoldable pub step_line : ℕ → ℕ → Option Stop → List ℕ
step_line n pc None = codes "stepped " ++ decimal n ++ codes " pc=" ++ hex16 pc
step_line n pc (Some stop) = stop_line pc stop

-- ---- go

unfoldable pub running_line : ℕ → List ℕ
running_line pc = codes "running pc=" ++ hex16 pc

-- ---- stop

unfoldable pub stopped_line : ℕ → List ℕ
stopped_line pc = codes "stopped pc=" ++ hex16 pc

-- stop the program; refused if it isn't running
abbrev pub halts : Present → Outcome
halts p =
    if p.running then replies (record p { running = false }) (stopped_line p.hart.scalar.pc)
    else refuses (Some p) refusal.NotRunning

-- ---- state

-- whether the program is running, and the program counter
unfoldable pub state_line : Bool → ℕ → List ℕ
state_line running pc = (if running then codes "state running pc=" else codes "state stopped pc=") ++ hex16 pc

-- ---- trace

-- the line that `trace` prints: the addresses, the oldest first
unfoldable pub trace_line : List ℕ → List ℕ
trace_line addresses = codes "trace" ++ flat_map listed addresses

-- ---- out

-- the number of bytes that the program has output, and the bytes, if there are any
unfoldable pub out_line : List ℕ → List ℕ
out_line bytes =
    codes "out " ++ decimal (length bytes) ++ (if nat_lt 0 (length bytes) then codes " " ++ encode_lower bytes else [])

-- ---- all commands of the group

-- the command with this name and these arguments; `None` if no command of this group has the name
abbrev pub running_named : List ℕ → List (List ℕ) → Option (Option RunningCommand)
running_named name args = meaning_in (
    (codes "step", one_argument Step (number_between 1 256) args)
    ∷ (codes "go", done Go args)
    ∷ (codes "stop", done StopRunning args)
    ∷ (codes "state", done State args)
    ∷ (codes "trace", done Trace args)
    ∷ (codes "out", done Out args) ∷ []) name

-- the outcome of a command for a user who has entered
unfoldable pub running_command : RunningCommand → Present → Outcome
-- execute instructions; a breakpoint at the first one doesn't stop the program
running_command (Step n) p =
    let run = steps n true p in
    record (replies run.state (step_line n run.state.hart.scalar.pc run.stop)) { uses = run.uses }
-- run the program; a breakpoint at its first instruction doesn't stop it
running_command Go p = replies (record p { running = true; fresh = true }) (running_line p.hart.scalar.pc)
running_command StopRunning p = halts p
running_command State p = replies p (state_line p.running p.hart.scalar.pc)
running_command Trace p = replies p (trace_line p.trace)
-- print the program's output, and empty the output buffer
running_command Out p = replies (record p { hart = record p.hart { output = [] } }) (out_line p.hart.output)

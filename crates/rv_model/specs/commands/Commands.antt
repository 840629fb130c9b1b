-- All commands of a user: the command in a line, and its outcome. Refusals take precedence in the order of their numbers. An unknown name
-- (E03) precedes a wrong argument (E04). The refusals that depend on the user's state follow (E05 to E07), then those of the command
-- itself.
use Rattle.std.specs.Prelude.{ℕ, ◌&&◌, Bool, true, false, List, [], ◌∷◌, Some, None, Result, Ok, Err, if◌then◌else◌}
use Rattle.rv_model.specs.declared.commands.command.Cmd.{Cmd}
use Rattle.rv_model.specs.declared.commands.command.Cmd.TheVariants.{Entering, Memory, Registers, Programs, Breakpoints, Running}
use Rattle.rv_model.specs.declared.commands.entering.EnteringCommand.TheVariants.{Enter}
use Rattle.rv_model.specs.declared.commands.refusal.Refusal.{Refusal}
use Rattle.rv_model.specs.declared.commands.refusal.Refusal.TheVariants as refusal
use Rattle.rv_model.specs.declared.commands.running.RunningCommand.TheVariants.{Stop, State}
use Rattle.rv_model.specs.commands.Breakpoints.{breakpoints_named, breakpoint_command}
use Rattle.rv_model.specs.commands.Entering.{entering_named, entering_absent, entering}
use Rattle.rv_model.specs.commands.Memory.{memory_named, memory_command}
use Rattle.rv_model.specs.commands.Programs.{programs_named, program_command}
use Rattle.rv_model.specs.commands.Reading.{in_group}
use Rattle.rv_model.specs.commands.Registers.{registers_named, register_command}
use Rattle.rv_model.specs.commands.Running.{running_named, running_command}
use Rattle.rv_model.specs.machine.Setup.{Image}
use Rattle.rv_model.specs.machine.UserMachine.{Present, Private, Outcome, refuses}
use Rattle.rv_model.specs.text.Words.{words, after_two_words}

-- ---- the command in a line

abbrev pub Parsed : Type 0
Parsed = Result Cmd Refusal

-- the command with this name and these arguments; `text` is the verbatim text of the line after its first argument
unfoldable pub named : List ℕ → List (List ℕ) → List ℕ → Parsed
named name args text =
    in_group Entering (entering_named name args)
    (in_group Memory (memory_named name args)
    (in_group Registers (registers_named name args)
    (in_group Programs (programs_named name args text)
    (in_group Breakpoints (breakpoints_named name args)
    (in_group Running (running_named name args) (Err refusal.UnknownCommand))))))

abbrev pub command : List (List ℕ) → List ℕ → Parsed
command [] text = Err refusal.UnknownCommand
command (name ∷ args) text = named name args text

-- the command in a line; `line` excludes the user's digit and the space after it
unfoldable pub parse : List ℕ → Parsed
parse line = command (words line) (after_two_words line)

-- ---- the outcome of a command

-- whether a command requires a stopped program: all but `enter`, `stop` and `state` do
abbrev pub needs_stopped : Cmd → Bool
needs_stopped (Entering Enter) = false
needs_stopped (Running Stop) = false
needs_stopped (Running State) = false
needs_stopped _ = true

-- for a user who hasn't entered: only `enter` is accepted
unfoldable pub of_absent : Cmd → Outcome
of_absent (Entering c) = entering_absent c
of_absent _ = refuses None refusal.NotEntered

-- for a user who has entered, and whose program is stopped if the command requires it
unfoldable pub of_present : List Image → Cmd → Present → Outcome
of_present images (Entering c) p = entering c p
of_present images (Memory c) p = memory_command c p
of_present images (Registers c) p = register_command c p
of_present images (Programs c) p = program_command images c p
of_present images (Breakpoints c) p = breakpoint_command c p
of_present images (Running c) p = running_command c p

-- for any user
unfoldable pub command_outcome : List Image → Cmd → Private → Outcome
command_outcome images c None = of_absent c
command_outcome images c (Some p) =
    if p.running && needs_stopped c then refuses (Some p) refusal.Running else of_present images c p

-- the outcome of a parsed line; a line without a valid command is refused
abbrev pub commanded : List Image → Private → Parsed → Outcome
commanded images p (Err reason) = refuses p reason
commanded images p (Ok c) = command_outcome images c p

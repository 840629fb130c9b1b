-- The model of a machine: the constants of a run, and the world of the eight private machines. It includes the effect of a line, and the
-- sum of two consecutive slices.
use Rattle.std.specs.Prelude.{ℕ, ◌≡◌, ◌+◌, ◌++◌, List, All}
use Rattle.rv_model.specs.commands.Commands.{Parsed, commanded, parse}
use Rattle.rv_model.specs.machine.Cuts.{KeepsWordIfCut}
use Rattle.rv_model.specs.machine.World.{sliced}
use Rattle.rv_model.specs.machine.Setup.{Image, Setup}
use Rattle.rv_model.specs.machine.Script.{World, printed_by_line, with_unit, world_after, user_machine, with_user_machine}
use Rattle.rv_model.specs.machine.UserMachine.{Outcome}
use Rattle.rv_model.specs.machine.VectorUnit.{unit_after_uses}
use Rattle.rv_model.specs.text.Lines.{text}

-- the constants of a run, and the state that changes
pub record MachineState : Type 0 where
  pub setup : Setup
  pub world : World

-- the machine after a line of a script
abbrev pub after_line : MachineState → List ℕ → MachineState
after_line m line = record m { world = world_after m.setup m.world line }

-- the output of the line
abbrev pub line_output : MachineState → List ℕ → List ℕ
line_output m line = printed_by_line m.setup m.world line

-- the world after this outcome for a user's machine
abbrev pub after_outcome : ℕ → Outcome → World → World
after_outcome u o w = with_unit (unit_after_uses u o.uses w.unit) (with_user_machine u o.next w)

-- the world after a command of a user, given as parsed or as a line, and after a slice of `quantum` ticks of a user
abbrev pub after_parsed : List Image → ℕ → Parsed → World → World
after_parsed images u parsed w = after_outcome u (commanded images (user_machine u w) parsed) w

abbrev pub after_command : List Image → ℕ → List ℕ → World → World
after_command images u line w = after_parsed images u (parse line) w

abbrev pub after_slice : ℕ → ℕ → World → World
after_slice quantum u w = after_outcome u (sliced quantum (user_machine u w)) w

-- A slice of user u printed `printed` and left the machine `now`. Together with a slice of `later` ticks, it leaves the same private
-- machine of the user, and prints the same, as one slice of all these ticks. The exception: the first slice cuts an instruction that has
-- already overwritten its own word.
abbrev pub SlicesAddUp : MachineState → ℕ → MachineState → List ℕ → Type 0
SlicesAddUp before u now printed = (later : ℕ)
    → All KeepsWordIfCut (sliced before.setup.quantum (user_machine u before.world)).uses
    → ((sliced (before.setup.quantum + later) (user_machine u before.world)).next ≡ (sliced later (user_machine u now.world)).next)
    × (text (48 + u) (sliced (before.setup.quantum + later) (user_machine u before.world)).lines
    ≡ printed ++ text (48 + u) (sliced later (user_machine u now.world)).lines)

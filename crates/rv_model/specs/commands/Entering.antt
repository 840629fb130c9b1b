-- The commands that create and remove a user's machine: `enter` and `leave`.
use Rattle.std.specs.Prelude.{ℕ, List, [], ◌∷◌, Option, Some, None, if◌then◌else◌, codes}
use Rattle.std.specs.Str.{bytes_eq}
use Rattle.rv_model.specs.declared.commands.entering.EnteringCommand.{EnteringCommand}
use Rattle.rv_model.specs.declared.commands.entering.EnteringCommand.TheVariants.{Enter, Leave}
use Rattle.rv_model.specs.declared.commands.refusal.Refusal.TheVariants.{NotEntered, AlreadyEntered}
use Rattle.rv_model.specs.commands.Reading.{done}
use Rattle.rv_model.specs.machine.UserMachine.{Present, Outcome, Drops, refuses, initial, replies}

-- the command with this name and these arguments; `None` if no command of this group has the name
abbrev pub entering_named : List ℕ → List (List ℕ) → Option (Option EnteringCommand)
entering_named name args =
    if bytes_eq name (codes "enter") then Some (done Enter args)
    else if bytes_eq name (codes "leave") then Some (done Leave args)
    else None

-- the outcome of a command for a user who hasn't entered; `enter` creates a machine with the initial vector state
unfoldable pub entering_absent : EnteringCommand → Outcome
entering_absent Enter = record (replies initial (codes "entered")) { uses = Drops ∷ [] }
entering_absent Leave = refuses None NotEntered

-- the outcome of a command for a user who has entered; `leave` removes the user's machine
unfoldable pub entering : EnteringCommand → Present → Outcome
entering Enter p = refuses (Some p) AlreadyEntered
entering Leave p = record { next = None; lines = codes "left" ∷ []; uses = Drops ∷ [] }

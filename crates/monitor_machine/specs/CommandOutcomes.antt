-- The effect of a command of a user who has entered on the parts that it changes, whatever the other parts are.
use Rattle.std.specs.Prelude.{ℕ, ◌+◌, ◌≡◌, List, Some}
use Rattle.lazy_context.specs.LazyUnit.{record_of}
use Rattle.rv_model.specs.declared.vector.state.VState.{VState}
use Rattle.rv_model.specs.machine.UserMachine.{Outcome}
use Rattle.rv_model.specs.machine.VectorUnit.{unit_after_uses}
use Rattle.rv_model.specs.machine.World.{Present}
use Rattle.rv_model.specs.memory.Memory.{Memory}
use Rattle.rv_model.specs.text.Lines.{text}
use Rattle.user_mem.specs.Users.{memory_of_user}
use Rattle.monitor_machine.specs.declared.context.Context.{Context}
use Rattle.monitor_machine.specs.declared.parts.Parts.{Parts}
use Rattle.monitor_machine.specs.PartMoves.{PartsMove, machine_of, present_of}
use Rattle.monitor_machine.specs.Parts.{Addresses, present}

-- a command that changes the memory alone
abbrev pub LeavesMemory : (Present → Outcome) → List Memory → List Memory → ℕ → Type 0
LeavesMemory command old new user = (c : Context) (trace : Addresses) (vector : VState)
    → (command (present c trace vector (memory_of_user old user))).next ≡ Some (present c trace vector (memory_of_user new user))

abbrev pub PrintsFromMemory : (Present → Outcome) → List Memory → ℕ → List ℕ → Type 0
PrintsFromMemory command memories user reply = (c : Context) (trace : Addresses) (vector : VState)
    → reply ≡ text (48 + user) (command (present c trace vector (memory_of_user memories user))).lines

-- a command that changes the context alone
abbrev pub LeavesContext : (Present → Outcome) → Context → Context → Type 0
LeavesContext command old new = (trace : Addresses) (vector : VState) (memory : Memory)
    → (command (present old trace vector memory)).next ≡ Some (present new trace vector memory)

abbrev pub PrintsFromContext : (Present → Outcome) → Context → ℕ → List ℕ → Type 0
PrintsFromContext command context user reply = (trace : Addresses) (vector : VState) (memory : Memory)
    → reply ≡ text (48 + user) (command (present context trace vector memory)).lines

-- a command that may change any part
module _ {A : Type 0} where
  abbrev pub LeavesParts : (Present → Outcome) → Parts A → Addresses → Parts A → Addresses → Type 0
  LeavesParts command old before new after = machine_of new after ≡ (command (present_of old before)).next

  abbrev pub MovesParts : (Present → Outcome) → Parts A → Addresses → Parts A → Type 0
  MovesParts command old trace new = PartsMove old new (unit_after_uses old.user (command (present_of old trace)).uses (record_of old.unit.now))

  abbrev pub PrintsFromParts : (Present → Outcome) → Parts A → Addresses → List ℕ → Type 0
  PrintsFromParts command old trace reply = reply ≡ text (48 + old.user) (command (present_of old trace)).lines

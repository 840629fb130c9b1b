-- Absent users have no state in the vector unit: none of them is its owner, and none has a saved state. So the discard that `enter`
-- performs changes nothing.
use Rattle.std.specs.Prelude.{ℕ, ◌≡◌, ◌≤◌, false, List, length, None, IfSome}
use Rattle.rv_model.specs.machine.Script.{after_script}
use Rattle.rv_model.specs.machine.Setup.{Setup, user_count}
use Rattle.rv_model.specs.machine.VectorUnit.{VectorUnit, is_marked, is_owned_by}
use Rattle.rv_model.specs.machine.World.{World, UserEvent, after_one, unit_after, user_machine}

-- the user isn't the owner of the unit, and the unit has no saved state of the user
abbrev pub HasNothing : ℕ → VectorUnit → Type 0
HasNothing u unit = (is_owned_by unit.owner u ≡ false) × (is_marked unit.saved u ≡ false)

-- the owner, if any, is one of the users, and absent users have no state in the unit
abbrev pub AbsentUsersHaveNothing : World → Type 0
AbsentUsersHaveNothing w = IfSome w.unit.owner (λ owner. (1 ≤ owner) × (owner ≤ user_count))
    × ((u : ℕ) → 1 ≤ u → u ≤ user_count → user_machine u w ≡ None → HasNothing u w.unit)

-- ---- the laws

-- The new world satisfies this, and each event of a user preserves it.
abbrev pub UserEventsKeepNothing : Type 0
UserEventsKeepNothing =
    (setup : Setup) (w : World) (h : UserEvent) → 1 ≤ h.user → h.user ≤ user_count → length w.parts ≡ user_count
    → AbsentUsersHaveNothing w → AbsentUsersHaveNothing (after_one setup w h)

-- So each script preserves it.
abbrev pub ScriptsKeepNothing : Type 0
ScriptsKeepNothing = (setup : Setup) (w : World) (script : List ℕ) → length w.parts ≡ user_count
    → AbsentUsersHaveNothing w → AbsentUsersHaveNothing (after_script setup w script)

-- Then no event of an absent user, `enter` included, changes the vector unit.
abbrev pub AbsentUsersLeaveTheUnit : Type 0
AbsentUsersLeaveTheUnit =
    (setup : Setup) (w : World) (h : UserEvent) → 1 ≤ h.user → h.user ≤ user_count → AbsentUsersHaveNothing w
    → user_machine h.user w ≡ None → unit_after setup w h ≡ w.unit

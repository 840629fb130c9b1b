-- The one vector unit that all users share: its owner, whether the owner's state has changed since its last save, and whose states are
-- saved. It counts saves, restores and first uses (Privileged Architecture 20211203, section 3.1.6.6, the field VS).
use Rattle.std.specs.Prelude.{ℕ, ◌+◌, ◌-◌, ◌^◌, ◌==◌, Bool, true, false, List, [], ◌∷◌, Option, Some, None, if◌then◌else◌, min, replicate, slice_index_or, slice_set}
use Rattle.rv_model.specs.declared.machine.stats.Stats.{Stats}
use Rattle.rv_model.specs.machine.UserMachine.{Use, Tries, Writes, Drops}
use Rattle.rv_model.specs.machine.Setup.{user_count}
use Rattle.rv_model.specs.step.Step.{dirties, fetched, touches}

pub record VectorUnit : Type 0 where
  pub owner : Option ℕ
  pub dirty : Bool
  pub saved : List Bool
  pub saves : ℕ
  pub restores : ℕ
  pub first_uses : ℕ

-- no user has used the unit, and no state is saved
abbrev pub unused_unit : VectorUnit
unused_unit = record { owner = None; dirty = false; saved = replicate user_count false; saves = 0; restores = 0; first_uses = 0 }

-- the statistics that the operator's command prints
abbrev pub stats_of : VectorUnit → Stats
stats_of unit = record { saves = unit.saves; restores = unit.restores; inits = unit.first_uses; owner = unit.owner }

-- ---- transitions of the unit. The field VS of a user's status is Off for every user but the owner. The owner's is Initial after a first
-- use, Clean after a restore, and Dirty after a change.

-- the count plus one; it saturates at the greatest 64-bit number
abbrev pub counted : ℕ → ℕ
counted count = min (count + 1) (2 ^ 64 - 1)

-- whether an owner, if any, is this user
abbrev pub is_owned_by : Option ℕ → ℕ → Bool
is_owned_by None user = false
is_owned_by (Some owner) user = owner == user

-- whether a user's state is saved; `saved` has one mark for each user, in order
abbrev pub is_marked : List Bool → ℕ → Bool
is_marked saved user = slice_index_or saved (user - 1) false

-- the marks with one user's mark set or cleared
abbrev pub with_mark : ℕ → Bool → List Bool → List Bool
with_mark user mark saved = slice_set saved (user - 1) mark

-- the owner's state is saved if it has changed since its last save
abbrev pub owner_saved : Option ℕ → VectorUnit → VectorUnit
owner_saved None unit = unit
owner_saved (Some owner) unit =
    if unit.dirty then record unit { saved = with_mark owner true unit.saved; saves = counted unit.saves } else unit

-- a user becomes the owner: the user's saved state is restored, or without one the user's first use starts with the initial state
abbrev pub owner_changed : ℕ → VectorUnit → VectorUnit
owner_changed user unit =
    if is_marked unit.saved user
    then record unit { owner = Some user; dirty = false; restores = counted unit.restores }
    else record unit { owner = Some user; dirty = false; first_uses = counted unit.first_uses }

-- a user touches the unit; if the user already is the owner, nothing is saved or restored
abbrev pub unit_touched : ℕ → VectorUnit → VectorUnit
unit_touched user unit =
    if is_owned_by unit.owner user then unit else owner_changed user (owner_saved unit.owner unit)

-- an instruction of a user. `touched`: it uses the unit. `changed`: it may change the user's state, as each vector instruction that isn't
-- illegal and each write of a vector control register does.
abbrev pub unit_after_instruction : Bool → Bool → ℕ → VectorUnit → VectorUnit
unit_after_instruction touched changed user unit =
    if touched then (if changed then record (unit_touched user unit) { dirty = true } else unit_touched user unit) else unit

-- a command writes a vector register of a user. The owner's state becomes dirty; another user's state is saved without a count.
abbrev pub unit_register_written : ℕ → VectorUnit → VectorUnit
unit_register_written user unit =
    if is_owned_by unit.owner user then record unit { dirty = true } else record unit { saved = with_mark user true unit.saved }

-- the user's state is discarded, because the user leaves or loads a program. Nothing is saved or counted, and a unit that the user owned
-- has no owner.
abbrev pub unit_discarded : ℕ → VectorUnit → VectorUnit
unit_discarded user unit =
    record unit { owner = (if is_owned_by unit.owner user then None else unit.owner); saved = with_mark user false unit.saved }

-- ---- the uses of a user's machine

-- the unit after one use
abbrev pub unit_after_use : ℕ → Use → VectorUnit → VectorUnit
unit_after_use user (Tries left hart) unit =
    let instruction = fetched hart.memory hart.scalar.pc in
    unit_after_instruction (touches instruction) (dirties left instruction hart) user unit
unit_after_use user Writes unit = unit_register_written user unit
unit_after_use user Drops unit = unit_discarded user unit

-- the unit after several uses, in order
abbrev pub unit_after_uses : ℕ → List Use → VectorUnit → VectorUnit
unit_after_uses user [] unit = unit
unit_after_uses user (first ∷ others) unit = unit_after_uses user others (unit_after_use user first unit)

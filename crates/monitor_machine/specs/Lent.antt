-- The state that one user's instructions borrow, and its change by one instruction and by a run of instructions.
use Rattle.std.specs.Prelude.{ℕ, ◌≡◌, Bool, Option}
use Rattle.rv_model.specs.declared.step.step_end.Stop.{Stop}
use Rattle.rv_model.specs.declared.vector.state.VState.{VState}
use Rattle.rv_model.specs.machine.UserMachine.{Halted, after, steps, stop_of, ticked, Present, Tries}
use Rattle.rv_model.specs.machine.VectorUnit.{VectorUnit, unit_after_use, unit_after_uses}
use Rattle.rv_model.specs.memory.Memory.{Memory}
use Rattle.rv_model.specs.step.Step.{step}
use Rattle.lazy_context.specs.LazyUnit.{IsSettled, OthersKeep, record_of, state_of}
use Rattle.monitor_machine.specs.declared.context.Context.{Context}
use Rattle.monitor_machine.specs.declared.user_adapters.UserVectors.{UserVectors}
use Rattle.monitor_machine.specs.Parts.{Addresses, present}

-- the vector state of the adapter's user
abbrev pub lent_state : UserVectors → VState
lent_state v = state_of v.unit.now v.user

-- a change of the vector unit: it is settled, the adapter has the same user and borrows the same unit, and the other users' vector states
-- are unchanged
pub record VectorsMove (old new : UserVectors) : Type 0 where
  pub settled : IsSettled new.unit.now
  pub others_keep : OthersKeep old.user old.unit.now new.unit.now
  pub user : new.user ≡ old.user
  pub same_unit : new.unit.ghost_name ≡ old.unit.ghost_name

-- the user's machine and the record of the vector unit, from all that is borrowed
pub record Lent : Type 0 where
  pub user : ℕ
  pub machine : Present
  pub unit : VectorUnit

abbrev pub lent : {M : Type 0} → (M → Memory) → Context → Addresses → UserVectors → M → Lent
lent memory c trace vectors m = record {
  user = vectors.user;
  machine = present c trace (lent_state vectors) (memory m);
  unit = record_of vectors.unit.now;
}

-- an attempt to execute an instruction within `limit` ticks leads from `old` to `new`, stops the program with `stop`, if it does, and
-- takes `ticks` ticks
abbrev pub TriesTo : ℕ → Lent → Lent → Option Stop → ℕ → Type 0
TriesTo limit old new stop ticks =
    (after (step limit old.machine.hart).end (step limit old.machine.hart).state old.machine ≡ new.machine)
    × (stop_of (step limit old.machine.hart).end ≡ stop)
    × ((step limit old.machine.hart).ticks ≡ ticks)
    × (new.unit ≡ unit_after_use old.user (Tries limit old.machine.hart) old.unit)

-- a run leads from `old` to `new`, and stops the program with `stop`, if it does
abbrev pub RunsTo : Halted → Lent → Lent → Option Stop → Type 0
RunsTo run old new stop =
    (run.state ≡ new.machine) × (run.stop ≡ stop) × (new.unit ≡ unit_after_uses old.user run.uses old.unit)

-- the same for at most `count` instructions, and for the instructions of `left` ticks
abbrev pub StepsTo : ℕ → Bool → Lent → Lent → Option Stop → Type 0
StepsTo count skip_once old = RunsTo (steps count skip_once old.machine) old

abbrev pub TicksTo : ℕ → Lent → Lent → Option Stop → Type 0
TicksTo left old = RunsTo (ticked left old.machine) old

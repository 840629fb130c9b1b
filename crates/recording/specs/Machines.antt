-- The state of a single-user machine, and one step of it.
use Rattle.std.specs.Prelude.{ℕ, ◌≡◌, []}
use Rattle.rv_model.specs.declared.step.step_end.StepEnd.{StepEnd}
use Rattle.rv_model.specs.memory.Memory.{Memory}
use Rattle.rv_model.specs.step.Hart.{HartState, ends_after, hart_state}
use Rattle.rv_model.specs.step.Step.{step}
use Rattle.recording.specs.declared.machine.SingleUserMachine.{SingleUserMachine}

-- the state of a machine, with the memory that its bytes represent
abbrev pub state_of : {M : Type 0} → (M → Memory) → SingleUserMachine M → HartState
state_of memory machine = hart_state machine.scalar machine.vectors.seat.state (memory machine.memory) machine.policy machine.output.items

-- one instruction leads from the old machine to the new one, with this end and these ticks; no memory instruction has more than 256
-- elements
abbrev pub LeadsTo : {M : Type 0} → (M → Memory) → SingleUserMachine M → SingleUserMachine M → StepEnd → ℕ → Type 0
LeadsTo memory old new end ticks = step 256 (state_of memory old) ≡ ends_after ticks end (state_of memory new)

-- a state with an emptied output buffer
abbrev pub taken : HartState → HartState
taken s = record s { output = [] }

-- One instruction leads from the old state, with this end and these ticks, to the state `next` with its output buffer emptied.
pub record Advances (next old new : HartState) (end : StepEnd) (ticks : ℕ) : Type 0 where
  pub state : new ≡ taken next
  pub end_is : (step 256 old).end ≡ end
  pub ticks_are : (step 256 old).ticks ≡ ticks

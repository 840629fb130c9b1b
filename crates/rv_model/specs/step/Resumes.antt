-- Laws of vector loads and stores, as whole instructions, that are cut or fault and run again from vstart on ("V" Vector Extension 1.0,
-- sections 3.7, 7.7 and 17.1).
use Rattle.std.specs.Prelude.{ℕ, ◌≡◌, ◌≢◌, ◌+◌, ◌-◌, ◌<◌, ◌≤◌, ◌⊎◌, ⊤, false, All, IfSome, IsSomeAnd, Option}
use Rattle.rv_model.specs.declared.instructions.instruction.Instr.{Instr}
use Rattle.rv_model.specs.declared.instructions.operations.Direction.TheVariants as direction
use Rattle.rv_model.specs.declared.step.step_end.StepEnd.TheVariants.{Cut, Fault}
use Rattle.rv_model.specs.declared.step.vector_end.VEnd.{VEnd}
use Rattle.rv_model.specs.declared.step.vector_end.VEnd.TheVariants as vector_end
use Rattle.rv_model.specs.declared.vector.sizes.TheConstants.{GROUP_BYTES}
use Rattle.rv_model.specs.accesses.Restarts.{EndsWhole, Extends, GoesOn, IsStopped, Restartable}
use Rattle.rv_model.specs.accesses.Transfers.{Moved, Ones, TransferKind}
use Rattle.rv_model.specs.accesses.VectorAccess.{VectorAccess, index_count, plan, vector_access}
use Rattle.rv_model.specs.step.Hart.{HartState, Memory, StepEnd, Stepped}
use Rattle.rv_model.specs.step.Step.{VectorStepped, vector_executed}
use Rattle.rv_model.specs.vector.Groups.{IsConfiguration}

-- The end of a vector instruction that is cut or faults.
pub record StopsShort (end : VEnd) : Type 0 where
  pub undone : end ≢ vector_end.Done
  pub legal : end ≢ vector_end.Illegal

-- a state with another memory
abbrev pub finds : Memory → HartState → HartState
finds m s = record s { memory = m }

-- The state after an instruction that is cut or faults. vstart is one of its indices, at or past the one where it started. The vector type
-- and length, the scalar registers, the output buffer and the policy are unchanged.
pub record LeavesPart (i : Instr) (before after : HartState) : Type 0 where
  pub vector : IsSomeAnd (vector_access i before.vector before.scalar) (λ a. IsStopped a before.vector after.vector)
  pub rest : after ≡ record before { vector = after.vector; memory = after.memory }

-- an instruction that starts in a state; it runs again in the state that its last run left
abbrev pub instruction_from : Instr → HartState → Restartable VectorStepped
instruction_from i s = record {
  whole = λ limit m. vector_executed limit i (finds m s);
  again = λ limit m r. vector_executed limit i (finds m r.state);
  done = λ r. r.state.vector.vstart - s.vector.vstart;
  MayFollow = λ m r more. StopsShort r.end × Extends r.state.memory more;
  IsUncut = λ r. (index : ℕ) → r.end ≢ vector_end.Cut index;
}

-- An instruction limited to `limit` indices that is cut or faults completes a part of its indices, all `limit` of them if it is cut. It can
-- be resumed.
pub record InstructionGoesOn (limit : ℕ) (i : Instr) (s : HartState) (r : VectorStepped) : Type 0 where
  pub part : StopsShort r.end → LeavesPart i s r.state
  pub cut : (index : ℕ) → r.end ≡ vector_end.Cut index → (index ≡ s.vector.vstart + limit) × (r.state.vector.vstart ≡ index)
  pub again : GoesOn (instruction_from i s) s.memory r
  pub whole : EndsWhole (instruction_from i s) (index_count (vector_access i s.vector s.scalar)) s.memory r

abbrev pub InstructionsGoOn : Type 0
InstructionsGoOn = (limit : ℕ) (i : Instr) (s : HartState) → IsConfiguration s.vector.conf
    → InstructionGoesOn limit i s (vector_executed limit i s)

-- ---- stores over the instruction's own word

-- a transfer of `size` bytes moves none of the four bytes at an address
abbrev pub IsApart : ℕ → ℕ → TransferKind → Type 0
IsApart pc size (Moved address) = (x : ℕ) → pc ≤ x → x < pc + 4 → (x < address) ⊎ (address + size ≤ x)
IsApart pc size Ones = ⊤

-- the same for every transfer of a store, from vstart up to the index `stop`
abbrev pub KeepsWord : ℕ → ℕ → VectorAccess → Type 0
KeepsWord pc stop a = a.direction ≡ direction.Store
    → (i : ℕ) → a.body.start ≤ i → i < stop → All (λ t. IsApart pc t.size t.kind) (plan a false i)

-- any instruction except a vector store that overwrites its own word before the index `stop`
abbrev pub KeepsOwnWord : ℕ → Option Instr → HartState → Type 0
KeepsOwnWord stop o s = IfSome o (λ i. IfSome (vector_access i s.vector s.scalar) (KeepsWord s.scalar.pc stop))

-- ---- steps, with the program counter and ticks

-- the end of a step that is cut or faults, which runs again
abbrev pub IsUndone : StepEnd → Type 0
IsUndone (Fault cause pc value) = ⊤
IsUndone Cut = ⊤
IsUndone _ = ⊥

-- the same step, with additional ticks
abbrev pub after_ticks : ℕ → Stepped → Stepped
after_ticks ticks r = record r { ticks = r.ticks + ticks }

-- the number of indices that a step completes; 0 unless its instruction is a vector load or store
abbrev pub indices_done : HartState → Stepped → ℕ
indices_done before r = r.state.vector.vstart - before.vector.vstart

-- A step that starts in a state. `make` runs it within a number of ticks, and `fetch` returns the instruction at a program counter of a
-- memory. The step runs again in the state that its last run left; its ticks are one for each index completed before, and those of this
-- run. It may run again if no store changed its own word.
abbrev pub step_from : (ℕ → HartState → Stepped) → (Memory → ℕ → Option Instr) → HartState → Restartable Stepped
step_from make fetch s = record {
  whole = λ ticks m. make ticks (finds m s);
  again = λ ticks m r. after_ticks (indices_done s r) (make ticks (finds m r.state));
  done = indices_done s;
  MayFollow = λ m r more.
      IsUndone r.end × KeepsOwnWord r.state.vector.vstart (fetch m s.scalar.pc) s × Extends r.state.memory more;
  IsUncut = λ r. r.end ≢ Cut;
}

-- A step limited to `limit` ticks that is cut advances vstart by exactly `limit`. A step that is cut or faults can be resumed, whatever the
-- instruction and the fault are. So the ticks of the whole step are the sum of those of its parts if these are cut. It can be resumed any
-- number of times if the vector length is valid for the vector type; GROUP_BYTES ticks are enough because no vector has more elements.
pub record StepGoesOn (make : ℕ → HartState → Stepped) (fetch : Memory → ℕ → Option Instr)
    (limit : ℕ) (s : HartState) (r : Stepped) : Type 0 where
  pub cut : r.end ≡ Cut → r.state.vector.vstart ≡ s.vector.vstart + limit
  pub again : GoesOn (step_from make fetch s) s.memory r
  pub whole : IsConfiguration s.vector.conf → EndsWhole (step_from make fetch s) GROUP_BYTES s.memory r

-- Each step of a kind can be resumed: a step of one vector instruction, whatever is fetched, or of the instruction that is fetched.
abbrev pub StepsGoOn : (ℕ → HartState → Stepped) → (Memory → ℕ → Option Instr) → Type 0
StepsGoOn make fetch = (limit : ℕ) (s : HartState) → IsConfiguration s.vector.conf → StepGoesOn make fetch limit s (make limit s)

-- The state of a hart, and how an instruction ends; the numbers of the causes of faults (Privileged Architecture 20211203, section 4.1.8).
use Rattle.std.specs.Prelude.{ℕ, List}
pub use Rattle.rv_model.specs.declared.vector.policy.Policy.{Policy}
pub use Rattle.rv_model.specs.declared.scalar.Scalar.{Scalar}
pub use Rattle.rv_model.specs.declared.step.step_end.Cause.{Cause}
pub use Rattle.rv_model.specs.declared.step.step_end.StepEnd.{StepEnd}
use Rattle.rv_model.specs.declared.step.step_end.StepEnd.TheVariants.{Ran, Fault}
pub use Rattle.rv_model.specs.declared.vector.state.VState.{VState}
pub use Rattle.rv_model.specs.memory.Memory.{Memory}
use Rattle.rv_model.specs.scalar.Registers.{advanced, with_register}
use Rattle.rv_model.specs.declared.step.step_end.Cause.TheVariants.{MisalignedTarget, FetchAccess, IllegalInstruction, LoadAccess, StoreAccess}

-- the state that instructions read and change: registers, vector state, memory, output buffer, and the policy for agnostic elements
pub record HartState : Type 0 where
  pub scalar : Scalar
  pub vector : VState
  pub memory : Memory
  pub output : List ℕ
  pub policy : Policy

-- a state from its parts and an output buffer
abbrev pub hart_state : Scalar → VState → Memory → Policy → List ℕ → HartState
hart_state scalar vector memory policy output =
    record { scalar = scalar; vector = vector; memory = memory; output = output; policy = policy }

-- the end of a step, the state after it, and the ticks that it takes
pub record Stepped : Type 0 where
  pub state : HartState
  pub end : StepEnd
  pub ticks : ℕ

-- a step that takes a number of ticks; `ends` is one that takes one tick
abbrev pub ends_after : ℕ → StepEnd → HartState → Stepped
ends_after ticks end s = record { state = s; end = end; ticks = ticks }

abbrev pub ends : StepEnd → HartState → Stepped
ends end s = ends_after 1 end s

-- an instruction that faults and changes nothing
abbrev pub faults : Cause → ℕ → HartState → Stepped
faults cause value s = ends (Fault cause s.scalar.pc value) s

-- an instruction that retires with these registers, and continues with the next instruction
abbrev pub retires : Scalar → HartState → Stepped
retires scalar s = ends Ran (record s { scalar = advanced scalar })

-- an instruction that retires after it writes a value to a register, and continues with the next instruction
abbrev pub gives : ℕ → ℕ → HartState → Stepped
gives rd value s = retires (with_register rd value s.scalar) s

-- the number of a cause of a fault
abbrev pub cause_number : Cause → ℕ
cause_number MisalignedTarget = 0
cause_number FetchAccess = 1
cause_number IllegalInstruction = 2
cause_number LoadAccess = 5
cause_number StoreAccess = 7

-- States after the execution of an instruction ("V" Vector Extension 1.0, chapter 11).
use Rattle.std.specs.Prelude.{ℕ, ◌≡◌, List}
use Rattle.rv_model.specs.declared.scalar.Scalar.{Scalar}
use Rattle.rv_model.specs.declared.step.vector_end.VEnd.{VEnd}
use Rattle.rv_model.specs.declared.vector.policy.Policy.{Policy}
use Rattle.rv_model.specs.declared.vector.state.VState.{VState}
use Rattle.rv_model.specs.memory.Memory.{Memory}
use Rattle.rv_model.specs.step.Hart.{HartState, hart_state}
use Rattle.rv_model.specs.step.Step.{VectorStepped, vector_ends}

-- under a policy, and for each memory and output buffer, a step leads from one state of the registers to the other and ends with `end`
abbrev pub Performs : (HartState → VectorStepped) → Policy → Scalar → VState → VEnd → Scalar → VState → Type 0
Performs step policy scalar state end scalar' state' =
    (memory : Memory) (output : List ℕ)
    → step (hart_state scalar state memory policy output) ≡ vector_ends end (hart_state scalar' state' memory policy output)

-- the same for an instruction that changes memory from `memory` to `memory'`
abbrev pub Accesses : (HartState → VectorStepped) → Policy → Scalar → VState → Memory → VEnd → VState → Memory → Type 0
Accesses step policy scalar state memory end state' memory' =
    (output : List ℕ)
    → step (hart_state scalar state memory policy output) ≡ vector_ends end (hart_state scalar state' memory' policy output)

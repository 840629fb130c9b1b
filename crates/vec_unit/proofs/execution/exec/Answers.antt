use Rattle.rv_model.specs.step.Hart.{hart_state}
use Rattle.rv_model.specs.step.Step.{vector_ends}
use Rattle.rv_model.proofs.step_lemmas.GoesOn.{instruction_goes_on}
use Rattle.vec_unit.proofs.execution.exec.Goals as goal

pub returns-in-Vector-Arith-clause-restarts : goal.returns-in-Vector-Arith-clause-restarts
returns-in-Vector-Arith-clause-restarts g c = λ output.
    let memory = g.M.UserBytes.memory c.args.memory.now in
    let operation = rw c.in-Vector-Arith.is at c.in-Vector-Arith.field-0-is in
    instruction_goes_on c.args.limit c.args.instr.now
    (hart_state c.args.scalar.now c.args.state.now memory c.args.policy output)
    (vector_ends c.exec_arith.result
    (hart_state c.args.scalar.now c.exec_arith.new.state memory c.args.policy output))
    c.length_law.ensures (rw (c.in-Vector-Arith.is, operation) (c.exec_arith.ensures.model c.args.limit memory output))

pub returns-in-Vector-clause-restarts : goal.returns-in-Vector-clause-restarts
returns-in-Vector-clause-restarts g c = λ output.
    let memory = g.M.UserBytes.memory c.args.memory.now in
    instruction_goes_on c.args.limit c.args.instr.now
    (hart_state c.args.scalar.now c.args.state.now memory c.args.policy output)
    (vector_ends c.exec_operation.result
    (hart_state c.exec_operation.new.scalar c.exec_operation.new.state memory c.args.policy output))
    c.length_law.ensures (rw c.in-Vector.is (c.exec_operation.ensures.model c.args.limit memory output))

pub returns-in-Access-clause-restarts : goal.returns-in-Access-clause-restarts
returns-in-Access-clause-restarts g c = λ output.
    instruction_goes_on c.args.limit c.args.instr.now
    (hart_state c.args.scalar.now c.args.state.now (g.M.UserBytes.memory c.args.memory.now) c.args.policy output)
    (vector_ends c.exec_access.result
    (hart_state c.args.scalar.now c.exec_access.new.state (g.M.UserBytes.memory c.exec_access.new.memory) c.args.policy output))
    c.length_law.ensures (rw c.in-Access.is (c.exec_access.ensures.model output))

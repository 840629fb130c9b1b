use Rattle.std.proofs.Common.{refl}
use Rattle.rv_model.specs.step.Hart.{hart_state}
use Rattle.vec_unit.specs.MemoryInstructions.{nothing}
use Rattle.vec_unit.proofs.AccessSteps.{access_performed}
use Rattle.vec_unit.proofs.memory_instructions.perform_unfilled.Goals as goal

pub returns-clause-model : goal.returns-clause-model
returns-clause-model g c = λ policy unfilled output.
    let i = c.args.access.now in
    access_performed c.args.limit i (hart_state c.args.scalar.now c.args.state.now (g.M.UserBytes.memory c.args.memory.now) policy output)
    nothing c.run-end.result _ c.run-end.new.state (g.M.UserBytes.memory c.run-end.new.memory) _ _ _
    c.requires.legal unfilled c.run-end.ensures.model refl refl c.access_end.ensures.value

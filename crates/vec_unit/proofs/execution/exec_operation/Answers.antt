use Rattle.std.proofs.Common.{◌≡◌, true, sym, ◌∙◌}
use Rattle.rv_model.specs.declared.instructions.instruction.Instr.TheVariants as instr
use Rattle.rv_model.specs.legality.Legality.{is_legal}
use Rattle.rv_model.specs.step.Step.{performed, vector_executed}
use Rattle.vec_unit.proofs.execution.exec_operation.Goals as goal

pub returns-clause-model : goal.returns-clause-model
unfolding vector_executed performed
returns-clause-model c = λ limit memory output.
    let allowed : is_legal (instr.Vector c.args.operation.now) c.args.state.now.conf.vtype c.args.state.now.vstart ≡ true =
    sym c.legal_other_operation.ensures ∙ c.if-not-legal_other_operation.false in
    rw allowed (c.perform_other_operation.ensures.model memory output)

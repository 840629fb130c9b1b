use Rattle.std.proofs.Common.{◌≡◌, true, sym, ◌∙◌}
use Rattle.rv_model.specs.declared.instructions.instruction.Instr.TheVariants as instr
use Rattle.rv_model.specs.declared.instructions.vector.VectorInstr.TheVariants.{Arith}
use Rattle.rv_model.specs.step.Step.{operation_step, performed, vector_executed}
use Rattle.rv_model.specs.legality.Legality.{is_legal}
use Rattle.vec_unit.proofs.execution.exec_arith.Goals as goal

pub returns-clause-model : goal.returns-clause-model
unfolding vector_executed performed operation_step
returns-clause-model c = λ limit memory output.
    let allowed : is_legal (instr.Vector (Arith c.args.operation.arith c.args.operation.vd c.args.operation.vs2 c.args.operation.unmasked)) c.args.state.now.conf.vtype c.args.state.now.vstart ≡ true =
    sym c.legal_arith.ensures ∙ c.if-not-legal_arith.false in
    rw allowed (c.perform_arith.ensures.model memory output)

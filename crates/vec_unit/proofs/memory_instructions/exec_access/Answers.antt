use Rattle.std.proofs.Common.{◌≡◌, true, sym, ◌∙◌}
use Rattle.rv_model.specs.declared.instructions.instruction.Instr.TheVariants as instr
use Rattle.rv_model.specs.legality.Legality.{is_legal}
use Rattle.rv_model.specs.step.Step.{vector_executed}
use Rattle.vec_unit.proofs.memory_instructions.exec_access.Goals as goal

pub returns-then-fills_no_elements-clause-model : goal.returns-then-fills_no_elements-clause-model
unfolding vector_executed
returns-then-fills_no_elements-clause-model g c = λ output.
    let allowed : is_legal (instr.Access c.args.access.now) c.args.state.now.conf.vtype c.args.state.now.vstart ≡ true =
    sym (c.legal_access.ensures c.args.state.now.vstart) ∙ c.if-not-legal_access.false in
    rw allowed (c.perform_unfilled.ensures.model c.args.policy (c.fills_no_elements.ensures c.args.state.now c.if-fills_no_elements.true) output)

pub returns-clause-model : goal.returns-clause-model
unfolding vector_executed
returns-clause-model g c = λ output.
    let allowed : is_legal (instr.Access c.args.access.now) c.args.state.now.conf.vtype c.args.state.now.vstart ≡ true =
    sym (c.legal_access.ensures c.args.state.now.vstart) ∙ c.if-not-legal_access.false in
    rw allowed (c.perform_access.ensures.model output)

use Rattle.rv_model.proofs.legality_lemmas.Bounds.{SingleInside, carry_inside}
use Rattle.vec_unit.proofs.other_operations.perform_typed.Goals as goal

pub perform_out_of_line-requires-clause-operands : goal.perform_out_of_line-requires-clause-operands
perform_out_of_line-requires-clause-operands c =
    let groups : SingleInside c.in-Carry.vd c.in-Carry.vs2 c.parts-op.result.1 c.args.vtype =
    carry_inside c.parts-op.result.0 c.parts-op.result.1 c.in-Carry.vd c.in-Carry.vs2 c.args.vtype
    c.args.state.now.vstart
    (rw (c.in-Carry.is, ← c.parts-op.ensures.value) at c.requires.legal) in
    (groups.destination, groups.first, groups.second)

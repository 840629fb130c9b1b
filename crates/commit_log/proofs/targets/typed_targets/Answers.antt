use Rattle.commit_log.proofs.Destinations.{arith_targets, carry_targets}
use Rattle.commit_log.proofs.targets.typed_targets.Goals as goal

pub returns-in-Arith-clause-value : goal.returns-in-Arith-clause-value
returns-in-Arith-clause-value c =
    let i = c.in-Arith in
    rw (c.group.ensures.value, c.destination_emul.ensures i.vd, c.parts-op.ensures.value, i.is) (arith_targets i.arith i.vd i.vs2 i.vm c.args.vtype)

pub returns-in-Carry-clause-value : goal.returns-in-Carry-clause-value
returns-in-Carry-clause-value c =
    let i = c.in-Carry in rw (c.group-in-Carry.ensures.value, c.from-lmul.ensures, c.eighths.ensures, i.is) (carry_targets i._carry i.vd i._vs2 c.args.vtype)

use Rattle.rv_model.specs.scalar.Registers.{initial_scalar}
use Rattle.rv_model.specs.vector.State.{initial_vector}
use Rattle.commit_log.proofs.FilledRegisters.{whole_group}
use Rattle.commit_log.proofs.targets.whole.Goals as goal

pub returns-clause-value : goal.returns-clause-value
returns-clause-value c = λ width rs1 vtype.
    rw (c.group.ensures.value, c.from.ensures, c.register_count.ensures) (whole_group initial_vector initial_scalar c.args.count width c.args.vd rs1 vtype)

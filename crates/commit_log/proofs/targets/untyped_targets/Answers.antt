use Rattle.std.proofs.Common.{None}
use Rattle.commit_log.proofs.targets.untyped_targets.Goals as goal

pub returns-in-WholeLoad-clause-value : goal.returns-in-WholeLoad-clause-value
returns-in-WholeLoad-clause-value c = let i = c.in-WholeLoad in rw (i.is) (c.whole.ensures.value i.width i.rs1 None)

use Rattle.std.proofs.Common.{false, arith}
use Rattle.monitor_machine.specs.Parts.{is_running, new_context}
use Rattle.monitor_machine.proofs.GrantLaws.{filled}
use Rattle.monitor_machine.proofs.users.running_of.Goals as goal

pub returns : goal.returns
returns c = filled is_running c.args.contexts.now c.loop-index.running new_context false (omega (arith, c.loop-index.invariant.count, c.type_inv.contexts)) (λ k lt. c.loop-index.invariant.done k (omega (arith, lt, c.type_inv.contexts, c.loop-index-test.false)))

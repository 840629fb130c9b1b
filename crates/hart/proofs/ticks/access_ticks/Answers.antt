-- The counted ticks are those of `shown_ticks`.
use Rattle.std.proofs.Common.{arith}
use Rattle.std.proofs.lemmas.Grind.{common_steps}
use Rattle.hart.proofs.AccessTicks.{counted}
use Rattle.hart.proofs.ticks.access_ticks.Goals as goal

pub returns-then-left-vl-clause-executed : goal.returns-then-left-vl-clause-executed
returns-then-left-vl-clause-executed c = λ word before after vl vstart at executed.
    counted c.args.limit c.args.access.now word before _ after _ executed (λ a is. grind (arith, common_steps))

pub returns-else-left-vl-clause-executed : goal.returns-else-left-vl-clause-executed
returns-else-left-vl-clause-executed c = λ word before after vl vstart at executed.
    counted c.args.limit c.args.access.now word before _ after _ executed (λ a is. grind (arith, common_steps))

pub returns-in-Fault-clause-executed : goal.returns-in-Fault-clause-executed
returns-in-Fault-clause-executed c = λ word before after vl vstart at executed.
    counted c.args.limit c.args.access.now word before _ after _ executed (λ a is. grind (arith, common_steps))

pub returns-in-Cut-clause-executed : goal.returns-in-Cut-clause-executed
returns-in-Cut-clause-executed c = λ word before after vl vstart at executed.
    counted c.args.limit c.args.access.now word before _ after _ executed (λ a is. grind (arith, common_steps))

use Rattle.std.proofs.Common.{sym}
use Rattle.hart.proofs.Endings.{set_ticks, took_ticks}
use Rattle.hart.proofs.ending.Ending.unpack.Goals as goal

pub returns-then-ticks-gt0-clause-ticks : goal.returns-then-ticks-gt0-clause-ticks
returns-then-ticks-gt0-clause-ticks c = sym (took_ticks c.args.ticks c.args.self.now c.if-ticks-gt0.true).1

pub returns-else-ticks-gt0-clause-ticks : goal.returns-else-ticks-gt0-clause-ticks
returns-else-ticks-gt0-clause-ticks c = sym (set_ticks c.args.ticks c.args.self.now c.if-ticks-gt0.false).1

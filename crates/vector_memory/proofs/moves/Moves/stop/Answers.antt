use Rattle.std.proofs.Common.{arith}
use Rattle.vector_memory.proofs.moves.Moves.stop.Goals as goal

pub returns : goal.returns
returns g c = omega (arith, c.args.self.now.most, c.min.ensures, c.end.ensures.value, c.saturating_add.ensures, c.start.ensures)

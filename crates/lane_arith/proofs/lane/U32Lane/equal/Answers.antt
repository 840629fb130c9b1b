use Rattle.std.proofs.Common.{eqb}
use Rattle.std.specs.Int.{w32}
use Rattle.lane_arith.proofs.VectorLanes.{compared}
use Rattle.lane_arith.proofs.lane.U32Lane.equal.Goals as goal

pub returns : goal.returns
returns c = compared w32 eqb c.args.a c.args.b 8 c.fits-a.0 c.fits-b.0

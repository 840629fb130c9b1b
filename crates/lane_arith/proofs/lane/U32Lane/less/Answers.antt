use Rattle.std.proofs.Common.{ltb}
use Rattle.std.specs.Int.{w32}
use Rattle.lane_arith.proofs.VectorLanes.{compared}
use Rattle.lane_arith.proofs.lane.U32Lane.less.Goals as goal

pub returns : goal.returns
returns c = compared w32 ltb c.args.a c.args.b 8 c.fits-a.0 c.fits-b.0

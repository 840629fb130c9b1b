use Rattle.std.proofs.Common.{ltb}
use Rattle.std.specs.Int.{w64}
use Rattle.lane_arith.proofs.VectorLanes.{compared}
use Rattle.lane_arith.proofs.lane.U64Lane.less.Goals as goal

pub returns : goal.returns
returns c = compared w64 ltb c.args.a c.args.b 4 c.fits-a.0 c.fits-b.0

use Rattle.std.proofs.Common.{ltb}
use Rattle.std.specs.Int.{w16}
use Rattle.lane_arith.proofs.VectorLanes.{compared}
use Rattle.lane_arith.proofs.lane.U16Lane.less.Goals as goal

pub returns : goal.returns
returns c = compared w16 ltb c.args.a c.args.b 16 c.fits-a.0 c.fits-b.0

use Rattle.std.proofs.Common.{refl}
use Rattle.std.specs.Int.{w64}
use Rattle.lane_arith.proofs.VectorLanes.{amounts_fit, shifted_left}
use Rattle.lane_arith.proofs.lane.U64Lane.each_shifted_left.Goals as goal

pub overflow_shl-result : goal.overflow_shl-result
overflow_shl-result c = amounts_fit w64 6 c.args.a c.args.amounts 4 refl c.fits-amounts.0 c.fits-a.1

pub returns : goal.returns
returns c = shifted_left w64 6 c.args.a c.args.amounts 4 refl c.fits-a.0 c.fits-amounts.0

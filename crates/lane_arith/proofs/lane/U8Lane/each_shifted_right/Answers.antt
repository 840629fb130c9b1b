use Rattle.std.proofs.Common.{refl}
use Rattle.std.specs.Int.{w8}
use Rattle.lane_arith.proofs.VectorLanes.{amounts_fit, shifted_right}
use Rattle.lane_arith.proofs.lane.U8Lane.each_shifted_right.Goals as goal

pub overflow_shr-result : goal.overflow_shr-result
overflow_shr-result c = amounts_fit w8 3 c.args.a c.args.amounts 32 refl c.fits-amounts.0 c.fits-a.1

pub returns : goal.returns
returns c = shifted_right w8 3 c.args.a c.args.amounts 32 refl c.fits-a.0 c.fits-amounts.0

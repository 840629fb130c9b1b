use Rattle.std.proofs.Common.{arith}
use Rattle.std.specs.Int.{w16}
use Rattle.lane_arith.proofs.VectorLanes.{known_bit, known_below}
use Rattle.lane_arith.proofs.lane.U16Lane.to_bits.Goals as goal

pub returns : goal.returns
returns c = record { value = known_bit w16 c.args.mask 16 c.fits-mask.0 (omega arith); bound = known_below w16 c.args.mask 16 c.fits-mask.0 (omega arith) }

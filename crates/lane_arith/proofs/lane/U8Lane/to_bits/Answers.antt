use Rattle.std.proofs.Common.{arith}
use Rattle.std.specs.Int.{w8}
use Rattle.lane_arith.proofs.VectorLanes.{known_bit, known_below}
use Rattle.lane_arith.proofs.lane.U8Lane.to_bits.Goals as goal

pub returns : goal.returns
returns c = record { value = known_bit w8 c.args.mask 32 c.fits-mask.0 (omega arith); bound = known_below w8 c.args.mask 32 c.fits-mask.0 (omega arith) }

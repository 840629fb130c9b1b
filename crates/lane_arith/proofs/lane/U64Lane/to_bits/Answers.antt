use Rattle.std.proofs.Common.{arith}
use Rattle.std.specs.Int.{w64}
use Rattle.lane_arith.proofs.VectorLanes.{known_bit, known_below}
use Rattle.lane_arith.proofs.lane.U64Lane.to_bits.Goals as goal

pub returns : goal.returns
returns c = record { value = known_bit w64 c.args.mask 4 c.fits-mask.0 (omega arith); bound = known_below w64 c.args.mask 4 c.fits-mask.0 (omega arith) }

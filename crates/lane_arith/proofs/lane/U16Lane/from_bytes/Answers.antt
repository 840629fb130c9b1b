use Rattle.std.proofs.Common.{◌^◌, lit<}
use Rattle.lane_arith.proofs.VectorLanes.{digit_below, wider}
use Rattle.lane_arith.proofs.lane.U16Lane.from_bytes.Goals as goal

pub returns : goal.returns
returns c = record { value = wider 2 16 c.args.bytes c.fits-bytes.1; bound = λ i h. digit_below (2 ^ 16) 16 _ i (lit< tt) h }

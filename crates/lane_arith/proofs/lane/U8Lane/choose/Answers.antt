use Rattle.std.proofs.Common.{refl}
use Rattle.lane_arith.specs.declared.lane.TheConstants.{BIT_OF_BYTE, PLACE_OF_BYTE}
use Rattle.lane_arith.proofs.VectorLanes.{chosen_bytes}
use Rattle.lane_arith.proofs.lane.U8Lane.choose.Goals as goal

pub returns : goal.returns
returns c = chosen_bytes c.args.word PLACE_OF_BYTE BIT_OF_BYTE c.ranges.word.fits refl refl refl refl

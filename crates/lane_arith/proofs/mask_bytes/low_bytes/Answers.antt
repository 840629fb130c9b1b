use Rattle.std.proofs.Common.{refl}
use Rattle.lane_arith.specs.declared.mask_bytes.TheConstants.{PLACES}
use Rattle.lane_arith.proofs.MaskBytes.{low_mask}
use Rattle.lane_arith.proofs.mask_bytes.low_bytes.Goals as goal

pub returns : goal.returns
returns c = low_mask PLACES refl refl c.args.end

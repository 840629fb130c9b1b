use Rattle.lane_arith.proofs.MaskBytes.{mask_and, mask_not, own_bits}
use Rattle.lane_arith.proofs.chunk.and_not_bytes.Goals as goal

pub returns : goal.returns
returns c = (mask_and (own_bits c.args.a c.fits-a.0 c.fits-a.1) (mask_not (own_bits c.args.b c.fits-b.0 c.fits-b.1))).bits

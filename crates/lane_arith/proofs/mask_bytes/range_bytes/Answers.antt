use Rattle.lane_arith.proofs.MaskBytes.{below_but_before}
use Rattle.lane_arith.proofs.mask_bytes.range_bytes.Goals as goal

pub returns : goal.returns
returns c = λ i h. rw (c.and_not_bytes.ensures i h, c.low_bytes-low.ensures i h, c.low_bytes.ensures i h, c.min.ensures) (below_but_before c.args.start c.args.end i)

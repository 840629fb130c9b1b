use Rattle.lane_arith.proofs.MaskBits.{replaced_bit}
use Rattle.lane_arith.proofs.mask_results.replaced.Goals as goal

pub returns : goal.returns
returns c = λ i h. rw c.from-old.ensures (replaced_bit c.args.old c.args.new c.args.active i h)

use Rattle.std.proofs.Common.{◌∙◌, ap, not}
use Rattle.lane_fixed.proofs.WiderNumbers.{signed_sum_low, signed_sum_above}
use Rattle.lane_fixed.proofs.chunk.signed_sums.Goals as goal

pub returns : goal.returns
returns g c = λ i h.
    let w = g.L.Lane.width in
    let a = g.L.Lane.lane c.args.a i in
    let b = g.L.Lane.lane c.args.b i in
    let low = c.sums-low.ensures i h in
    let top = c.top_bits.ensures i h in
    let turned = c.sums-turned.ensures i h in
    let above = c.at_most.ensures i h in (
      low ∙ signed_sum_low w a b (c.requires.first i h) (c.requires.second i h),
      above ∙ rw (turned, low, top) (ap not (signed_sum_above w a b (c.requires.first i h) (c.requires.second i h))),
    )

use Rattle.std.proofs.Common.{◌∙◌, refl}
use Rattle.lane_arith.proofs.SignedLanes.{shifted_with_sign}
use Rattle.lane_arith.proofs.chunk.signed_shifted_right.Goals as goal

pub returns : goal.returns
returns g c = λ i h.
    let turned = c.each_shifted_right-turned.ensures i h in
    let top = c.each_shifted_right.ensures i h in
    let sum = c.sums.ensures i h in
    let bit = c.top_bits-top.ensures i h in
    c.differences.ensures i h ∙ rw (turned, top, sum, bit) refl
    ∙ shifted_with_sign g.L.Lane.width (g.L.Lane.lane c.args.a i) (g.L.Lane.lane c.args.amounts i) (c.requires i h)

use Rattle.std.proofs.Common.{refl}
use Rattle.lane_arith.proofs.MagnitudesWithSigns.{left_of_negated}
use Rattle.lane_arith.proofs.division.with_sign.Goals as goal
use Rattle.lane_arith.proofs.division.with_sign.Goals.{then-negative, else-negative}

pub returns : goal.returns
returns g c = elim c.if-negative.branch [
  | then-negative p ↦ rw (p.if-negative.true, c.low_bits.ensures, p.low_bits-is)
      (left_of_negated g.L.Lane.width g.met.L.Lane.fits_64 p.wrapping_neg.result c.args.magnitude p.wrapping_neg.type_inv c.ranges.magnitude.fits p.wrapping_neg.ensures)
  | else-negative p ↦ rw (p.if-negative.false, c.low_bits.ensures, p.low_bits-is) refl
]

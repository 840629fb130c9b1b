use Rattle.std.proofs.Common.{pos, ◌*ℤ◌}
use Rattle.lane_arith.proofs.widen.product_added.Goals as goal

pub returns-in-Vwmaccu : goal.returns-in-Vwmaccu
returns-in-Vwmaccu g c =
    rw c.in-Vwmaccu.is (c.added.ensures (pos (g.N.Lane.value c.args.a) *ℤ pos (g.N.Lane.value c.args.b)) c.product.ensures)

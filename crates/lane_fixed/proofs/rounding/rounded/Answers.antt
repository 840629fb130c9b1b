use Rattle.rv_model.specs.elements.FixedPoint.{rounds_up}
use Rattle.lane_fixed.proofs.LowBits.{natural_sum_fits, natural_sum_is_rounded}
use Rattle.std.proofs.Common.{pos}
use Rattle.lane_fixed.proofs.rounding.rounded.Goals as goal

pub overflow_add-result : goal.overflow_add-result
overflow_add-result g c =
    rw (c.from.ensures, c.rounds_up.ensures)
    (record { fits = natural_sum_fits c.args.count c.args.number (rounds_up g.M.Rounding.mode c.args.count (pos c.args.number)) c.ranges.number.fits })

pub returns : goal.returns
returns g c = rw (c.from.ensures, c.rounds_up.ensures) (natural_sum_is_rounded g.M.Rounding.mode c.args.count c.args.number)

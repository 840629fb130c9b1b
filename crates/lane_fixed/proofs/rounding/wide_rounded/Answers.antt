use Rattle.std.proofs.Common.{◌≡◌, ℕ, ℤ, ap, ◌∙◌}
use Rattle.std.proofs.lemmas.Int.{to_z-of_z}
use Rattle.std.specs.Int.{w128}
use Rattle.rv_model.specs.elements.Formulas.{low_bits}
use Rattle.lane_fixed.proofs.LowBits.{shown_sum_fits, shown_sum_is_rounded}
use Rattle.lane_fixed.proofs.rounding.wide_rounded.Goals as goal

pub overflow_add-result : goal.overflow_add-result
overflow_add-result g c = rw (c.from.ensures, c.rounds_up.ensures) (shown_sum_fits w128 c.args.count c.args.number _ c.ranges.number)

pub returns : goal.returns
returns g c =
    let k : ℕ = c.args.count in
    let z : ℤ = c.args.number in
    let low : c.low_half.result ≡ low_bits 64 z = c.low_half.ensures ∙ ap (low_bits 64) (to_z-of_z w128 z c.ranges.number) in
    rw (c.from.ensures, c.rounds_up.ensures, low) (shown_sum_is_rounded w128 g.M.Rounding.mode k z c.requires c.ranges.number)

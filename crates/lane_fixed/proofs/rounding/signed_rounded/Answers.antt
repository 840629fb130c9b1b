use Rattle.std.proofs.Common.{◌≡◌, ℕ, ℤ, ap, arith, ◌∙◌, w64}
use Rattle.std.proofs.lemmas.Int.{to_z-of_z}
use Rattle.std.specs.Int.{cast_unsigned}
use Rattle.rv_model.specs.elements.Formulas.{low_bits}
use Rattle.lane_fixed.proofs.LowBits.{all_bits, shown_sum_fits, shown_sum_is_rounded}
use Rattle.lane_fixed.proofs.rounding.signed_rounded.Goals as goal

pub overflow_add-result : goal.overflow_add-result
overflow_add-result g c = rw (c.from.ensures, c.rounds_up.ensures) (shown_sum_fits w64 c.args.count c.args.number _ c.ranges.number)

pub returns : goal.returns
returns g c =
    let k : ℕ = c.args.count in
    let z : ℤ = c.args.number in
    let low : c.cast_unsigned.result ≡ low_bits 64 z =
    c.cast_unsigned.ensures ∙ ap (cast_unsigned w64) (to_z-of_z w64 z c.ranges.number) ∙ all_bits z (omega (arith, c.ranges.number.sfits)) in
    rw (c.from.ensures, c.rounds_up.ensures, low) (shown_sum_is_rounded w64 g.M.Rounding.mode k z c.requires c.ranges.number)

use Rattle.std.proofs.Common.{ℕ, ◌≡◌, ◌∙◌, ◌-ℤ◌, pos, negsuc, arith, ◌-◌, ◌/◌, ◌^◌, w64}
use Rattle.std.proofs.lemmas.Int.{ints, to_z-of_z}
use Rattle.std.specs.Int.{cast_signed, cast_unsigned, saturate_signed}
use mir.Val.{hbits}
use Rattle.rv_model.proofs.element_lemmas.Numbers.{half, half_positive}
use Rattle.rv_model.proofs.element_lemmas.Rounding.{clamped}
use Rattle.lane_fixed.proofs.saturation.nearest_signed.Goals as goal

pub returns : goal.returns
returns g c =
    let w = g.L.Lane.width in
    let z = c.args.number in
    let top : ℕ = c.number.result / 2 in
    let is : top ≡ 2 ^ hbits w - 1 = omega (arith, c.number.ensures.value, c.all_ones.ensures, half w, half_positive w) in
    let high : cast_signed w64 (cast_unsigned w64 c.cast_signed-greatest.result) ≡ pos top =
    omega (arith, ints, c.cast_signed-greatest.ensures, c.number.type_inv) in
    let low : cast_signed w64 (cast_unsigned w64 (cast_signed w64 (cast_unsigned w64 (pos 0 -ℤ pos top)) -ℤ pos 1)) ≡ negsuc top =
    omega (arith, ints, c.number.type_inv) in
    let number : cast_signed w64 (cast_unsigned w64 z) ≡ z = to_z-of_z w64 z c.ranges.number in
    let nearest : c.clamp.result ≡ saturate_signed w z =
    rw (high, low, number) at c.clamp.ensures.value ∙ clamped (hbits w) z top is in
    to_z-of_z w64 c.clamp.result (record { sfits = c.clamp.type_inv }) ∙ nearest

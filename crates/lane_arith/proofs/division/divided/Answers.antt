use Rattle.std.proofs.Common.{w64, ◌∙◌}
use Rattle.std.proofs.lemmas.Int.{to_z-of_z}
use Rattle.lane_arith.proofs.MagnitudesWithSigns.{left_quotient}
use Rattle.lane_arith.proofs.division.divided.Goals as goal

pub returns : goal.returns
returns g c =
    let first = to_z-of_z w64 c.signed_number-dividend.result (record { sfits = c.signed_number-dividend.type_inv }) ∙ c.signed_number-dividend.ensures.value in
    let second = to_z-of_z w64 c.signed_number-divisor.result (record { sfits = c.signed_number-divisor.type_inv }) ∙ c.signed_number-divisor.ensures.value in
    rw (c.with_sign.ensures, c.unsigned_abs.ensures.value, c.unsigned_abs-2.ensures.value, first, second)
    (left_quotient g.L.Lane.width (g.L.Lane.value c.args.a) (g.L.Lane.value c.args.b) c.signed_number-dividend.ensures.bound)

use Rattle.std.proofs.Common.{◌≡◌, ◌∙◌, ◌*◌, ◌%◌, ◌^◌, ◌<◌, ℕ, ap, arith, mod-eq_of_lt}
use Rattle.std.proofs.Math.Pow.{pow-lt}
use Rattle.lane_fixed.proofs.LowBits.{even_bits}
use Rattle.lane_fixed.proofs.rounding.ToNearestEvenRounding.rounds_up.Goals as goal

pub returns : goal.returns
returns c =
    let k : ℕ = c.args.count in
    let below : 2 ^ k < 2 ^ 64 = pow-lt c.requires in
    let once : 1 * 2 ^ k ≡ 2 ^ k = omega arith in
    let divisor : 1 * 2 ^ k % 2 ^ 64 ≡ 2 ^ k = ap (λ x. x % 2 ^ 64) once ∙ mod-eq_of_lt below in
    rw (divisor) (even_bits k c.args.number c.requires)

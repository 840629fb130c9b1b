use Rattle.std.proofs.Common.{◌≤◌, arith}
use Rattle.std.proofs.lemmas.Nat.{one_shl}
use Rattle.std.proofs.Math.Nat.{pow-le-pow_right}
use Rattle.lane_arith.proofs.MaskBits.{body_bit}
use Rattle.lane_arith.proofs.chunk_bits.part_bits.Goals as goal

pub overflow_sub-result : goal.overflow_sub-result
overflow_sub-result c =
    let few : c.max-high.result ≤ 32 = omega (arith, c.requires) in
    let order : c.min-low.result ≤ c.max-high.result = omega arith in
    rw (one_shl c.min-low.result 64 (omega arith), one_shl c.max-high.result 64 (omega arith)) (pow-le-pow_right (omega arith) order)

pub returns : goal.returns
returns c = λ i h.
    let few : c.max-high.result ≤ 32 = omega (arith, c.requires) in
    let order : c.min-low.result ≤ c.max-high.result = omega arith in
    rw (one_shl c.min-low.result 64 (omega arith), one_shl c.max-high.result 64 (omega arith))
    (body_bit c.args.start c.args.end c.args.first c.args.count c.min-low.result c.max-high.result i (omega arith) (omega arith) h)

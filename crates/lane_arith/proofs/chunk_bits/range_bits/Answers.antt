use Rattle.std.proofs.Common.{◌≡◌, ◌/◌, ◌%◌, ◌^◌, ◌∙◌, arith, refl, sym}
use Rattle.std.proofs.lemmas.Nat.Bits.{bit_at_ones}
use Rattle.lane_arith.proofs.MaskBits.{all_in_range}
use Rattle.lane_arith.proofs.chunk_bits.range_bits.Goals as goal

pub returns-then-is_within : goal.returns-then-is_within
returns-then-is_within c = λ i h.
    let one : 18446744073709551615 / 2 ^ i % 2 ≡ 1 = bit_at_ones 64 i (omega (arith, h, c.requires)) in
    rw (one, all_in_range c.args.start c.args.end c.args.first c.args.count i h (sym c.is_within.ensures ∙ c.if-is_within.true)) refl

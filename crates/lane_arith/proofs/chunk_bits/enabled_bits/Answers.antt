use Rattle.std.proofs.Common.{◌≡◌, ◌/◌, ◌%◌, ◌^◌, arith, refl, sym, ◌∙◌}
use Rattle.std.proofs.lemmas.Nat.Bits.{bit_at_ones}
use Rattle.lane_arith.proofs.chunk_bits.enabled_bits.Goals as goal

pub returns-then-is_unmasked : goal.returns-then-is_unmasked
returns-then-is_unmasked c = λ i h.
    let one : 18446744073709551615 / 2 ^ i % 2 ≡ 1 = bit_at_ones 64 i (omega (arith, c.requires.word)) in
    rw (sym c.is_unmasked.ensures ∙ c.if-is_unmasked.true, one) refl

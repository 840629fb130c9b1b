use Rattle.lane_arith.proofs.MaskBits.{both_bits}
use Rattle.lane_arith.proofs.chunk_bits.active_bits.Goals as goal

pub returns : goal.returns
returns c = λ i h.
    let range = rw (c.start.ensures, c.end.ensures.value) at c.range_bits.ensures i h in
    both_bits c.range_bits.result c.enabled_bits.result i _ _ range (c.enabled_bits.ensures i h)

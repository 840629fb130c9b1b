use Rattle.std.proofs.Common.{◌≡◌, ◌≤◌, ◌/◌, ◌%◌, ◌^◌, refl, arith}
use Rattle.std.proofs.lemmas.Nat.Bits.{bit_at_ones}
use Rattle.rv_model.specs.vector.Groups.{width_bytes}
use Rattle.rv_model.proofs.element_lemmas.Widths.{bytes_positive}
use Rattle.lane_arith.proofs.ChunkWrites.{few_in_chunk}
use Rattle.lane_reduce.proofs.chunk.active_or_neutral.Goals as goal

pub returns-then-active-eq18446744073709551615 : goal.returns-then-active-eq18446744073709551615
returns-then-active-eq18446744073709551615 g c = λ i h.
    let few : g.L.Lane.count ≤ 32 = few_in_chunk (width_bytes g.L.Lane.width) g.L.Lane.count (bytes_positive g.L.Lane.width) g.met.L.Lane.fills in
    let one : 18446744073709551615 / 2 ^ i % 2 ≡ 1 = bit_at_ones 64 i (omega arith) in
    rw (c.if-active-eq18446744073709551615.true, one) refl

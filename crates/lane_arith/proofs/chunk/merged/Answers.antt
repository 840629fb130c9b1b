use Rattle.std.proofs.Common.{◌≡◌, true, ◌≤◌, ◌/◌, ◌%◌, ◌^◌, ap, ◌∙◌, refl, arith}
use Rattle.std.proofs.lemmas.Nat.Bits.{bit_at-zero, bit_at_ones}
use Rattle.std.specs.Int.{byte_at}
use Rattle.rv_model.specs.vector.Groups.{width_bytes}
use Rattle.rv_model.proofs.element_lemmas.Widths.{bytes_positive}
use Rattle.lane_arith.proofs.ChunkWrites.{few_in_chunk, merged_byte}
use Rattle.lane_arith.proofs.chunk.merged.Goals as goal

pub returns-then-active-eq18446744073709551615 : goal.returns-then-active-eq18446744073709551615
returns-then-active-eq18446744073709551615 g c = λ i m h l.
    let few : g.L.Lane.count ≤ 32 = few_in_chunk (width_bytes g.L.Lane.width) g.L.Lane.count (bytes_positive g.L.Lane.width) g.met.L.Lane.fills in
    let one : 18446744073709551615 / 2 ^ i % 2 ≡ 1 = bit_at_ones 64 i (omega arith) in
    rw (c.if-active-eq18446744073709551615.true, one) (c.to_bytes.ensures i m h l)

pub returns-then-filled-eq0 : goal.returns-then-filled-eq0
returns-then-filled-eq0 g c = λ i m h l.
    let lane = c.select.ensures i h in
    let active = c.choose.ensures i h in
    let old = c.from_bytes.ensures.value i h in
    let none : c.args.filled / 2 ^ i % 2 ≡ 0 = rw c.if-filled-eq0.true (bit_at-zero i) in
    rw none
    (c.to_bytes-then-filled-eq0.ensures i m h l ∙ ap (byte_at m) (rw (lane, active, old) refl)
    ∙ merged_byte (width_bytes g.L.Lane.width) g.L.Lane.count i m c.args.old c.fits-old.0 c.fits-old.1 g.met.L.Lane.fills h l _ true _ 0)

pub returns : goal.returns
returns g c = λ i m h l.
    let lane = c.select-2.ensures i h in
    let rest = c.select-rest.ensures i h in
    let active = c.choose-3.ensures i h in
    let filled = c.choose-2.ensures i h in
    let ones = c.repeated.ensures i h in
    let all = c.all_ones.ensures in
    let old = c.from_bytes-2.ensures.value i h in
    c.to_bytes-2.ensures i m h l ∙ ap (byte_at m) (rw (lane, rest, active, filled, ones, all, old) refl)
    ∙ merged_byte (width_bytes g.L.Lane.width) g.L.Lane.count i m c.args.old c.fits-old.0 c.fits-old.1 g.met.L.Lane.fills h l _ _ _ _

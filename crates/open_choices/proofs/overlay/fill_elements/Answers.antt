use Rattle.std.proofs.Common.{ℕ, ◌+◌, ◌*◌, ◌≤◌, ◌≡◌, ◌&&◌, length, sym, arith}
use Rattle.rv_model.specs.elements.Formulas.{ones}
use Rattle.rv_model.specs.vector.Groups.{width_bytes}
use Rattle.lane_arith.proofs.ChunkWrites.{chunk_more}
use Rattle.lane_arith.proofs.MaskBits.{both_bits}
use Rattle.open_choices.specs.Fills.{is_open}
use Rattle.open_choices.proofs.FilledChunks.{all_chunks, filled_chunk, first_chunk}
use Rattle.open_choices.proofs.overlay.fill_elements.Goals as goal

pub loop-c-init : goal.loop-c-init
loop-c-init g c = first_chunk (width_bytes g.L.Lane.width) c.count-count.result _ _ c.args.group.now

pub loop-c-preserved : goal.loop-c-preserved
loop-c-preserved g c =
    let k : ℕ = width_bytes g.L.Lane.width in
    let n : ℕ = c.count-count.result in
    let is : n ≡ g.L.Lane.count = c.count-count.ensures in
    let fills : k * n ≡ 32 = rw is g.met.L.Lane.fills in
    let room : 32 * c.loop-c.c + 32 ≤ length c.loop-c.group = omega (arith, c.loop-c-test.true, c.loop-c.invariant.same_length) in
    chunk_more k n c.loop-c.c _ _ c.args.group.now c.loop-c.group c.put_results.new.destination c.loop-c.invariant
    (filled_chunk k n c.loop-c.c (λ e. is_open c.args.body.now c.args.masked_off c.args.tail e && g.C.Choices.takes c.args.choices.now e) (g.L.Lane.lane c.repeated.result)
    (ones g.L.Lane.width) c.loop-c.group c.put_results.new.destination c.put_results.ensures.0 _ fills room c.put_results.ensures.1 c.put_results.ensures.2
    (λ i m h l. c.put_results.ensures.3 i m (rw (sym is) h) l)
    (λ i h. both_bits c.open_bits-open.result c.bits.result i _ _ (c.open_bits-open.ensures i h) (c.bits.ensures i h))
    (λ i h. rw (c.repeated.ensures i (rw (sym is) h)) c.all_ones.ensures))

pub returns : goal.returns
returns g c =
    let k : ℕ = width_bytes g.L.Lane.width in
    let n : ℕ = c.count-count.result in
    let fills : k * n ≡ 32 = rw c.count-count.ensures g.met.L.Lane.fills in
    all_chunks k n c.loop-c.c _ _ c.args.group.now c.loop-c.group fills (omega (arith, c.requires.whole, c.loop-c-test.false, c.loop-c.auto.c-end)) c.loop-c.invariant

use Rattle.std.proofs.Common.{ℕ, Bool, ◌+◌, ◌*◌, ◌≤◌, ◌≡◌, length, sym, arith}
use Rattle.rv_model.specs.elements.Elements.{Body}
use Rattle.rv_model.specs.elements.Formulas.{ones}
use Rattle.rv_model.specs.vector.Groups.{width_bytes}
use Rattle.lane_arith.proofs.ChunkWrites.{chunk_more, step_chunk}
use Rattle.lane_fixed.proofs.SomeActive.{chunk_shows}
use Rattle.lane_fixed.proofs.saturating_results.write_chunks.Goals as goal

pub loop-c-preserved : goal.loop-c-preserved
loop-c-preserved g c =
    let k : ℕ = width_bytes g.L.Lane.width in
    let n : ℕ = c.count-count.result in
    let body : Body = c.args.body.now in
    let result : ℕ → ℕ = g.R.SaturatingResults.number c.args.results.now in
    let saturates : ℕ → Bool = g.R.SaturatingResults.saturates c.args.results.now in
    let made : ℕ → ℕ = g.L.Lane.lane c.in-Some.made.values in
    let is : n ≡ g.L.Lane.count = c.count-count.ensures in
    let fills : k * n ≡ 32 = rw is g.met.L.Lane.fills in
    let room : 32 * c.loop-c.c + 32 ≤ length c.loop-c.destination = omega (arith, c.loop-c-test.true, c.min-whole.ensures, c.loop-c.invariant.writes.same_length) in
    record {
      writes = chunk_more k n c.loop-c.c _ _ c.args.destination.now c.loop-c.destination c.put_results.new.destination c.loop-c.invariant.writes
          (step_chunk k n c.loop-c.c body c.args.fill_masked_off result made (ones g.L.Lane.width) c.loop-c.destination c.put_results.new.destination
          c.put_results.ensures.0 c.active_bits-active.result c.filled_bits-filled.result fills room c.put_results.ensures.1 c.put_results.ensures.2
          (λ i m h l. c.put_results.ensures.3 i m (rw (sym is) h) l) (λ i h. c.active_bits-active.ensures i h) (λ i h. c.filled_bits-filled.ensures i h)
          (λ i h. rw is (c.in-Some.ensures.value i (rw (sym is) h))));
      saturated = chunk_shows body saturates n c.loop-c.c c.loop-c.saturated c.in-Some.made.saturated c.active_bits-active.result
          c.loop-c.invariant.saturated (rw is c.in-Some.ensures.bound)
          (λ i h. rw is (c.in-Some.ensures.saturated i (rw (sym is) h))) (λ i h. c.active_bits-active.ensures i h);
    }

use Rattle.std.proofs.Common.{◌≡◌, ℕ, List, ◌+◌, ◌*◌, ◌-◌, ◌≤◌, ◌∙◌, length, refl, sym, ap, arith}
use Rattle.std.specs.Simd.Lanes.{chunk, put_chunk}
use Rattle.std.proofs.lemmas.Simd.{length-put_chunk}
use borrow.Rule.Slice.PartMut.{put_mid}
use Rattle.rv_model.specs.declared.memory.Access.TheVariants.{Store}
use Rattle.rv_model.specs.memory.Memory.{put_bytes}
use Rattle.rv_model.proofs.access_lemmas.Segments.{field_transfer, stored_start}
use Rattle.vector_memory.proofs.LentLaws.{field_inside, fields_allowed, some_bytes, stored_lent}
use Rattle.vector_memory.proofs.SpanMoves.{part_at, part_put}
use Rattle.vector_memory.specs.SegmentRoom.{place_in}
use Rattle.vector_memory.proofs.segments.Segments.write_lent.Goals as goal

pub loop-field-init : goal.loop-field-init
loop-field-init g c = record {
  count = refl;
  stored = λ m. stored_start (put_bytes m c.args.first c.args.bytes.now) (place_in c.args.self.now) c.args.file.now c.args.index c.args.address c.args.self.now.size;
}

pub loop-field-preserved : goal.loop-field-preserved
loop-field-preserved g c =
    let s = c.args.self.now in
    let f = c.loop-field.field in
    let i = c.args.index in
    let a = c.args.address in
    let file = c.args.file.now in
    let old = c.args.bytes.now in
    let bytes = c.loop-field.bytes in
    let inv = c.loop-field.invariant in
    let offset = c.in-Some.offset in
    let at : ℕ = offset + f * s.size in
    let t = field_transfer i a s.size f in
    let xs : List ℕ = chunk (place_in s t) s.size file in
    let some : 1 ≤ s.size = omega (arith, c.requires.size, some_bytes _ g.L.Lane.count g.met.L.Lane.fills) in
    let place : c.place-place.result ≡ place_in s t = omega (arith, c.place-place.ensures.value) in
    let new = c.copy_lane.new.destination in
    let copied : new ≡ xs = c.copy_lane.ensures ∙ c.part.ensures.value ∙ part_at c.place-place.result (place_in s t) s.size file place in
    let long : length new ≡ s.size = omega (arith, c.part.ensures.len) in
    let inside = field_inside c.args.first (length old) a offset s.size c.in-Some.ensures.at some c.requires.end f s.fields c.loop-field-test.true c.in-Some.ensures.inside in
    let room : at + length new ≤ length bytes = omega (arith, long, inv.count, inside) in
    let put : put_mid at (at + s.size - at) bytes new ≡ put_chunk at bytes new = part_put at (at + s.size - at) at bytes new (omega (arith, long)) refl room in
    record {
      count = ap length put ∙ length-put_chunk at bytes new ∙ inv.count;
      stored = λ m.
          ap (put_bytes m c.args.first) (put ∙ ap (put_chunk at bytes) copied)
          ∙ stored_lent c.args.first (length old) a offset s.size c.in-Some.ensures.at some c.requires.end m old bytes (place_in s) file i f s.fields (sym inv.count)
          c.loop-field-test.true c.in-Some.ensures.inside (inv.stored m) (sym (ap length copied) ∙ long);
    }

pub returns-clause-allowed : goal.returns-clause-allowed
returns-clause-allowed g c = λ _ m all.
    let s = c.args.self.now in
    fields_allowed c.args.first (length c.args.bytes.now) c.args.address c.in-Some.offset s.size c.in-Some.ensures.at (omega (arith, c.requires.size, some_bytes _ g.L.Lane.count g.met.L.Lane.fills)) c.requires.end Store m c.args.index all s.fields
    c.in-Some.ensures.inside

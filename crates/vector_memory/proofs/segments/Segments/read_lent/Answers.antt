use Rattle.std.proofs.Common.{◌≡◌, ◌+◌, ◌*◌, ◌≤◌, ◌∙◌, length, refl, ap, arith}
use Rattle.std.specs.Simd.Lanes.{chunk, put_chunk}
use Rattle.rv_model.specs.declared.memory.Access.TheVariants.{Load}
use Rattle.rv_model.specs.accesses.Transfers.{registers_loaded}
use Rattle.rv_model.specs.accesses.VectorAccess.{moved_segment}
use Rattle.rv_model.proofs.access_lemmas.Segments.{field_transfer, loaded_start}
use Rattle.vector_memory.proofs.LentLaws.{fields_allowed, lent_field, some_bytes}
use Rattle.vector_memory.proofs.SpanMoves.{part_at}
use Rattle.vector_memory.specs.SegmentRoom.{place_in}
use Rattle.vector_memory.proofs.segments.Segments.read_lent.Goals as goal

pub loop-field-init : goal.loop-field-init
loop-field-init g c = λ m lent. loaded_start m (place_in c.args.self.now) c.args.file.now c.args.index c.args.address c.args.self.now.size

pub loop-field-preserved : goal.loop-field-preserved
loop-field-preserved g c = λ m lent.
    let s = c.args.self.now in
    let f = c.loop-field.field in
    let i = c.args.index in
    let a = c.args.address in
    let file = c.args.file.now in
    let bytes = c.args.bytes.now in
    let offset = c.in-Some.offset in
    let some : 1 ≤ s.size = omega (arith, c.requires.size, some_bytes _ g.L.Lane.count g.met.L.Lane.fills) in
    let at : c.place-place.result ≡ place_in s (field_transfer i a s.size f) = omega (arith, c.place-place.ensures.value) in
    let copied = c.copy_lane.ensures ∙ part_at (offset + f * s.size) (offset + f * s.size) s.size bytes refl in
    ap (λ xs. put_chunk c.place-place.result c.loop-field.file xs) copied
    ∙ ap (λ n. put_chunk n c.loop-field.file (chunk (offset + f * s.size) s.size bytes)) at
    ∙ ap (λ xs. put_chunk (place_in s (field_transfer i a s.size f)) xs (chunk (offset + f * s.size) s.size bytes)) (c.loop-field.invariant m lent)
    ∙ lent_field c.args.first (length bytes) a offset s.size c.in-Some.ensures.at some c.requires.end m bytes (place_in s) file i f s.fields refl lent
    c.loop-field-test.true c.in-Some.ensures.inside

pub returns-clause-moved : goal.returns-clause-moved
returns-clause-moved g c = λ _ m lent.
    let s = c.args.self.now in
    let i = c.args.index in
    let a = c.args.address in
    let some : 1 ≤ s.size = omega (arith, c.requires.size, some_bytes _ g.L.Lane.count g.met.L.Lane.fills) in
    let last : c.loop-field.field ≡ s.fields = omega (arith, c.loop-field-test.false, c.loop-field.auto.field-end) in
    record {
      allowed = fields_allowed c.args.first (length c.args.bytes.now) a c.in-Some.offset s.size c.in-Some.ensures.at some c.requires.end Load m i lent.allowed s.fields c.in-Some.ensures.inside;
      value = c.loop-field.invariant m lent ∙ ap (λ f. registers_loaded m (place_in s) c.args.file.now (moved_segment i a s.size f)) last;
    }

use Rattle.std.proofs.Common.{◌≡◌, ℕ, ◌+◌, ◌*◌, ◌-◌, ◌<◌, ◌≤◌, List, length, refl, sym, ap, ◌∙◌, arith}
use Rattle.std.specs.Simd.Lanes.{chunk, put_chunk}
use Rattle.std.proofs.lemmas.Simd.{length-chunk, length-put_chunk}
use Rattle.rv_model.specs.memory.Memory.{put_bytes}
use Rattle.rv_model.specs.elements.Elements.{is_enabled}
use Rattle.vector_memory.specs.FieldOrder.{field_place, for_each, store_field}
use Rattle.vector_memory.specs.SpanAccess.{span_access}
use Rattle.vector_memory.proofs.BlockMoves.{put_same}
use Rattle.vector_memory.proofs.BlendMoves.{part_chunk, put_within}
use Rattle.vector_memory.proofs.FieldSteps.{each_more, each_none, store_active, store_kept}
use Rattle.vector_memory.proofs.SpanMoves.{field_begins, field_inside, field_room, part_at, part_put, put_part}
use Rattle.vector_memory.proofs.spans.Span.write_field.Goals as goal
use Rattle.vector_memory.proofs.spans.Span.write_field.Goals.{then-is_enabled, else-is_enabled}

pub slice_bounds-copy_lane-end : goal.slice_bounds-copy_lane-end
slice_bounds-copy_lane-end g c =
    let b = c.args.self.now in
    let high : b.body.start + c.loop-segment.segment < b.stop = omega (arith, c.loop-segment-test.true, c.count-segment-end.ensures) in
    omega (arith, c.part-group.ensures.len, field_room b c.loop-segment.segment c.args.field c.start-start.result c.place-first.result high c.requires.field c.start-start.ensures c.place-first.ensures.value)

pub loop-segment-init : goal.loop-segment-init
loop-segment-init g c = λ m.
    let b = c.args.self.now in
    let bytes = c.args.bytes.now in
    let at = c.args.field * b.segments.size in
    ap (put_bytes m b.address) (put_same at (length bytes - at) bytes)
    ∙ sym (each_none (store_field c.args.file.now (span_access b) c.args.field) (put_bytes m b.address bytes) b.body.start)

pub loop-segment-preserved : goal.loop-segment-preserved
loop-segment-preserved g c = λ m.
    let b = c.args.self.now in
    let s = b.segments in
    let f = c.args.field in
    let file = c.args.file.now in
    let n = c.loop-segment.segment in
    let i = b.body.start + n in
    let same : c.start-start.result + n ≡ i = ap (λ x. x + n) c.start-start.ensures in
    let low : b.body.start ≤ i = omega arith in
    let high : i < b.stop = omega (arith, c.loop-segment-test.true, c.count-segment-end.ensures) in
    let step = store_field file (span_access b) f in
    let old : List ℕ = c.args.bytes.now in
    let mid : List ℕ = put_chunk (f * s.size) old c.loop-segment.destination in
    let next =
    ap (λ x. step x i) (c.loop-segment.invariant m) ∙ sym (each_more step (put_bytes m b.address old) b.body.start n) in
    elim c.if-is_enabled.branch [
      | then-is_enabled w ↦
          (let bytes : List ℕ = w.copy_lane.new.destination in
          let to : ℕ = (i - b.body.start) * b.distance + f * s.size in
          let first : n ≡ i - b.body.start = omega arith in
          let at : n * c.step-distance.result ≡ n * b.distance = ap (λ x. n * x) c.step-distance.ensures in
          let there : to ≡ f * s.size + n * b.distance = ap (λ x. x * b.distance + f * s.size) (sym first) ∙ omega arith in
          let count : length bytes ≡ s.size = omega (arith, w.copy_lane.auto.destination) in
          let inside = field_inside b i f low high c.requires.field in
          let rest : length c.loop-segment.destination + f * s.size ≡ length old =
          omega (arith, c.loop-segment.auto.destination, length-chunk (f * s.size) (length old - f * s.size) old (omega (arith, inside, c.requires.length)), inside, c.requires.length) in
          let room : n * b.distance + length bytes ≤ length c.loop-segment.destination = omega (arith, count, rest, there, inside, c.requires.length) in
          let place : c.place-first.result + n * s.size ≡ field_place (span_access b) f i =
          omega (arith, c.place-first.ensures.value, ap (λ x. x * s.size) c.start-start.ensures) in
          let whole : to + length bytes ≤ length mid = omega (arith, length-put_chunk (f * s.size) old c.loop-segment.destination, there, room, rest) in
          let written : put_chunk (f * s.size) old c.if-is_enabled.destination ≡ put_chunk to mid bytes =
          ap (put_chunk (f * s.size) old) (w.destination-is ∙ part_put _ _ (n * b.distance) c.loop-segment.destination bytes (omega (arith, count)) at room)
          ∙ sym (put_within (f * s.size) (n * b.distance) to old c.loop-segment.destination bytes there room (omega (arith, rest))) in
          let read : bytes ≡ chunk (field_place (span_access b) f i) s.size file =
          w.copy_lane.ensures ∙ part_at _ _ s.size c.part-group.result.now refl ∙ ap (chunk (n * s.size) s.size) c.part-group.ensures.value
          ∙ part_chunk c.place-first.result (n * s.size) s.size _ file
          (omega (arith, field_room b n f c.start-start.result c.place-first.result high c.requires.field c.start-start.ensures c.place-first.ensures.value))
          ∙ ap (λ x. chunk x s.size file) place in
          ap (put_bytes m b.address) written ∙ put_part m b.address to mid bytes whole
          ∙ store_active file (span_access b) f i (b.address + to) (put_bytes m b.address mid) bytes (ap (is_enabled b.body) (sym same) ∙ sym c.is_enabled.ensures ∙ w.if-is_enabled.true)
          (sym (field_begins b i f low high c.requires.field)) read
          ∙ next)
      | else-is_enabled w ↦
          ap (λ x. put_bytes m b.address (put_chunk (f * s.size) old x)) w.destination-is
          ∙ store_kept file (span_access b) f i (put_bytes m b.address mid) (ap (is_enabled b.body) (sym same) ∙ sym c.is_enabled.ensures ∙ w.if-is_enabled.false) ∙ next
    ]

pub returns : goal.returns
returns g c = λ m.
    let b = c.args.self.now in
    let at = c.args.field * b.segments.size in
    let old = c.args.bytes.now in
    let some : at ≤ length old = omega (arith, field_inside b b.body.start c.args.field (omega arith) b.span.some c.requires.field, c.requires.length) in
    let rest : length c.loop-segment.destination + at ≡ length old =
    omega (arith, c.loop-segment.auto.destination, length-chunk at (length old - at) old (omega (arith, some)), some) in
    let all : c.loop-segment.segment ≡ b.stop - b.body.start = omega (arith, c.loop-segment-test.false, c.loop-segment.auto.segment-end, c.count-segment-end.ensures) in
    ap (put_bytes m b.address) (part_put at _ at old c.loop-segment.destination (omega (arith, rest)) refl (omega (arith, rest)))
    ∙ c.loop-segment.invariant m
    ∙ ap (for_each (store_field c.args.file.now (span_access b) c.args.field) (put_bytes m b.address old) b.body.start) all

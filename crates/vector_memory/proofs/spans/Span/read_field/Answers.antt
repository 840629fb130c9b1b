use Rattle.std.proofs.Common.{◌≡◌, ℕ, ◌+◌, ◌*◌, ◌-◌, ◌<◌, ◌≤◌, List, length, refl, sym, ap, ◌∙◌, arith}
use Rattle.std.specs.Simd.Lanes.{chunk, put_chunk}
use Rattle.rv_model.specs.elements.Elements.{is_enabled}
use Rattle.vector_memory.specs.FieldOrder.{field_address, field_place, load_field}
use Rattle.vector_memory.specs.SpanAccess.{span_access}
use Rattle.rv_model.specs.memory.Memory.{bytes_at}
use borrow.Rule.Slice.PartMut.{put_mid}
use Rattle.vector_memory.proofs.BlockMoves.{put_same}
use Rattle.vector_memory.proofs.BlendMoves.{part_chunk, put_within}
use Rattle.vector_memory.proofs.FieldSteps.{each_more, each_none, load_active, load_filled, load_kept}
use Rattle.vector_memory.proofs.Outcomes.{take-replicate}
use Rattle.vector_memory.proofs.SpanMoves.{field_inside, field_read, field_room, part_at, part_put}
use Rattle.vector_memory.proofs.spans.Span.read_field.Goals as goal
use Rattle.vector_memory.proofs.spans.Span.read_field.Goals.{then-is_enabled, else-is_enabled+then-fill, else-is_enabled+else-fill}

pub slice_bounds-copy_lane-end-then-is_enabled : goal.slice_bounds-copy_lane-end-then-is_enabled
slice_bounds-copy_lane-end-then-is_enabled g c =
    let b = c.args.self.now in
    let high : b.body.start + c.loop-segment.segment < b.stop = omega (arith, c.loop-segment-test.true, c.count-segment-end.ensures) in
    omega (arith, c.loop-segment.auto.group, c.part_mut-group.ensures.len, field_room b c.loop-segment.segment c.args.field c.start-start.result c.place-first.result high c.requires.field c.start-start.ensures c.place-first.ensures.value)

pub slice_bounds-copy_lane-end-then-fill-2 : goal.slice_bounds-copy_lane-end-then-fill-2
slice_bounds-copy_lane-end-then-fill-2 g c =
    let b = c.args.self.now in
    let high : b.body.start + c.loop-segment.segment < b.stop = omega (arith, c.loop-segment-test.true, c.count-segment-end.ensures) in
    omega (arith, c.loop-segment.auto.group, c.part_mut-group.ensures.len, field_room b c.loop-segment.segment c.args.field c.start-start.result c.place-first.result high c.requires.field c.start-start.ensures c.place-first.ensures.value)

pub loop-segment-init : goal.loop-segment-init
loop-segment-init g c = λ m read.
    let file = c.args.file.now in
    ap (put_chunk c.place-first.result file) c.part_mut-group.ensures.value ∙ put_same c.place-first.result _ file
    ∙ sym (each_none (load_field m (span_access c.args.self.now) c.args.fill c.args.field) file c.args.self.now.body.start)

pub loop-segment-preserved : goal.loop-segment-preserved
loop-segment-preserved g c = λ m read.
    let b = c.args.self.now in
    let s = b.segments in
    let a = span_access b in
    let f = c.args.field in
    let file : List ℕ = c.args.file.now in
    let old : List ℕ = c.args.bytes.now in
    let n = c.loop-segment.segment in
    let i = b.body.start + n in
    let same : c.start-start.result + n ≡ i = ap (λ x. x + n) c.start-start.ensures in
    let low : b.body.start ≤ i = omega arith in
    let high : i < b.stop = omega (arith, c.loop-segment-test.true, c.count-segment-end.ensures) in
    let mid : List ℕ = put_chunk c.place-first.result file c.loop-segment.group in
    let step = load_field m a c.args.fill f in
    let next =
    ap (λ x. step x i) (c.loop-segment.invariant m read) ∙ sym (each_more step file b.body.start n) in
    let first : n ≡ i - b.body.start = omega arith in
    let from : ℕ = (i - b.body.start) * b.distance + f * s.size in
    let there : f * s.size + n * c.step-distance.result ≡ from =
    ap (λ x. f * s.size + n * x) c.step-distance.ensures ∙ ap (λ x. f * s.size + x * b.distance) first ∙ omega arith in
    let place : c.place-first.result + n * s.size ≡ field_place a f i =
    omega (arith, c.place-first.ensures.value, ap (λ x. x * s.size) c.start-start.ensures) in
    let room = field_room b n f c.start-start.result c.place-first.result high c.requires.field c.start-start.ensures c.place-first.ensures.value in
    let written : (new : List ℕ) → length new ≡ s.size → c.if-is_enabled.group ≡ put_mid (n * s.size) (n * s.size + s.size - n * s.size) c.loop-segment.group new
    → put_chunk c.place-first.result file c.if-is_enabled.group ≡ put_chunk (c.place-first.result + n * s.size) mid new =
    λ new count is.
    let fits : n * s.size + length new ≤ length c.loop-segment.group = omega (arith, count, room, c.loop-segment.auto.group, c.part_mut-group.ensures.len) in
    ap (put_chunk c.place-first.result file) (is ∙ part_put _ _ (n * s.size) c.loop-segment.group new (omega (arith, count)) refl fits)
    ∙ sym (put_within c.place-first.result (n * s.size) (c.place-first.result + n * s.size) file c.loop-segment.group new refl fits
    (omega (arith, c.loop-segment.auto.group, c.part_mut-group.ensures.len, c.part_mut-group.ensures.whole))) in
    elim c.if-is_enabled.branch [
      | then-is_enabled w ↦
          (let new = w.copy_lane.new.destination in
          let is : new ≡ bytes_at m (field_address a f i) s.size =
          w.copy_lane.ensures ∙ part_at _ _ s.size (chunk (f * s.size) (length old - f * s.size) old) refl
          ∙ part_chunk (f * s.size) (n * c.step-distance.result) s.size (length old - f * s.size) old
          (omega (arith, there, field_inside b i f low high c.requires.field, c.requires.length))
          ∙ ap (λ x. chunk x s.size old) there ∙ field_read b m old i f low high c.requires.field read in
          written new (omega (arith, w.copy_lane.auto.destination)) w.group-is
          ∙ load_active m a c.args.fill f i _ mid new (ap (is_enabled b.body) (sym same) ∙ sym c.is_enabled.ensures ∙ w.if-is_enabled.true) place is ∙ next)
      | else-is_enabled+then-fill w ↦
          (let new = w.copy_lane-then-fill.new.destination in
          written new (omega (arith, w.copy_lane-then-fill.auto.destination)) w.group-is
          ∙ load_filled m a c.args.fill f i _ mid new (ap (is_enabled b.body) (sym same) ∙ sym c.is_enabled.ensures ∙ w.if-is_enabled.false) w.if-fill.true place
          (w.copy_lane-then-fill.ensures ∙ take-replicate 255 s.size 8 b.span.room.size)
          ∙ next)
      | else-is_enabled+else-fill w ↦
          ap (put_chunk c.place-first.result file) w.group-is
          ∙ load_kept m a c.args.fill f i mid (ap (is_enabled b.body) (sym same) ∙ sym c.is_enabled.ensures ∙ w.if-is_enabled.false) w.if-fill.false ∙ next
    ]

use Rattle.std.proofs.Common.{◌≡◌, ◌-◌, sym, ap, ◌∙◌, arith}
use Rattle.rv_model.specs.memory.Memory.{put_bytes}
use Rattle.vector_memory.specs.FieldOrder.{each_field, for_each, store_field}
use Rattle.vector_memory.specs.SpanAccess.{span_access}
use Rattle.vector_memory.proofs.FieldSteps.{field_more, fields_stored, no_field, stores_apart}
use Rattle.vector_memory.proofs.SpanMoves.{fields_apart}
use Rattle.vector_memory.proofs.spans.Span.write_lanes.Goals as goal

pub loop-field-init : goal.loop-field-init
loop-field-init g c = λ m.
    let b = c.args.self.now in
    let start = b.body.start in
    sym (no_field (store_field c.args.file.now (span_access b)) (put_bytes m b.address c.args.bytes.now) start (b.stop - start))

pub loop-field-preserved : goal.loop-field-preserved
loop-field-preserved g c = λ m.
    let b = c.args.self.now in
    let start = b.body.start in
    let a = span_access b in
    let one = store_field c.args.file.now a in
    let f = c.loop-field.field in
    let n = b.stop - start in
    c.write_field.ensures m ∙ ap (λ x. for_each (one f) x start n) (c.loop-field.invariant m)
    ∙ field_more one b.segments.fields start b.stop (stores_apart c.args.file.now a start b.stop (fields_apart b)) f c.loop-field-test.true n start
    (put_bytes m b.address c.args.bytes.now) (omega arith) (omega (arith, b.span.some))

pub returns-after-loop-field : goal.returns-after-loop-field
returns-after-loop-field g c = λ m.
    let b = c.args.self.now in
    let start = b.body.start in
    let a = span_access b in
    let last : c.loop-field.field ≡ b.segments.fields = omega arith in
    c.loop-field.invariant m
    ∙ ap (λ f. for_each (each_field (store_field c.args.file.now a) f) (put_bytes m b.address c.args.bytes.now) start (b.stop - start)) last
    ∙ fields_stored c.args.file.now a (b.stop - start) start (put_bytes m b.address c.args.bytes.now)

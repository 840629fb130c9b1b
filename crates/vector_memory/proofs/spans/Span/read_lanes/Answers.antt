use Rattle.std.proofs.Common.{◌≡◌, ◌-◌, sym, ap, ◌∙◌, arith}
use Rattle.vector_memory.specs.FieldOrder.{each_field, for_each, load_field}
use Rattle.vector_memory.specs.SpanAccess.{span_access}
use Rattle.vector_memory.proofs.FieldSteps.{field_more, fields_loaded, loads_apart, no_field}
use Rattle.vector_memory.proofs.spans.Span.read_lanes.Goals as goal

pub loop-field-init : goal.loop-field-init
loop-field-init g c = λ m read.
    let b = c.args.self.now in
    let start = b.body.start in
    sym (no_field (load_field m (span_access b) c.args.fill) c.args.file.now start (b.stop - start))

pub loop-field-preserved : goal.loop-field-preserved
loop-field-preserved g c = λ m read.
    let b = c.args.self.now in
    let start = b.body.start in
    let a = span_access b in
    let one = load_field m a c.args.fill in
    let f = c.loop-field.field in
    let n = b.stop - start in
    c.read_field.ensures m read ∙ ap (λ x. for_each (one f) x start n) (c.loop-field.invariant m read)
    ∙ field_more one b.segments.fields 0 b.stop (loads_apart m a c.args.fill b.stop b.span.room.room b.segments.fields) f c.loop-field-test.true n start c.args.file.now
    (omega arith) (omega (arith, b.span.some))

pub returns-after-loop-field : goal.returns-after-loop-field
returns-after-loop-field g c = λ m read.
    let b = c.args.self.now in
    let start = b.body.start in
    let a = span_access b in
    let last : c.loop-field.field ≡ b.segments.fields = omega arith in
    c.loop-field.invariant m read
    ∙ ap (λ f. for_each (each_field (load_field m a c.args.fill) f) c.args.file.now start (b.stop - start)) last
    ∙ fields_loaded m a c.args.fill (b.stop - start) start c.args.file.now

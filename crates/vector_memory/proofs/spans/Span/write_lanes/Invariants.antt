use Rattle.std.proofs.Common.{◌≡◌, ◌-◌}
use Rattle.rv_model.specs.memory.Memory.{Memory, put_bytes}
use Rattle.vector_memory.specs.FieldOrder.{each_field, for_each, store_field}
use Rattle.vector_memory.specs.SpanAccess.{span_access}
use Rattle.vector_memory.proofs.spans.Span.write_lanes.Given as goal

abbrev pub invariant-loop-field : goal.invariant-loop-field
invariant-loop-field g l =
    (m : Memory) → put_bytes m l.self.address l.bytes
    ≡ for_each (each_field (store_field l.file (span_access l.self)) l.field) (put_bytes m l.self.address l.fn.bytes) l.self.body.start (l.self.stop - l.self.body.start)

use Rattle.std.proofs.Common.{◌≡◌, ◌-◌}
use Rattle.rv_model.specs.memory.Memory.{Memory, bytes_at}
use Rattle.vector_memory.specs.FieldOrder.{each_field, for_each, load_field}
use Rattle.vector_memory.specs.SpanAccess.{span_access}
use Rattle.vector_memory.proofs.spans.Span.read_lanes.Given as goal

abbrev pub invariant-loop-field : goal.invariant-loop-field
invariant-loop-field g l =
    (m : Memory) → l.bytes ≡ bytes_at m l.self.address l.self.length → l.file ≡ for_each (each_field (load_field m (span_access l.self) l.fill) l.field) l.fn.file l.self.body.start (l.self.stop - l.self.body.start)

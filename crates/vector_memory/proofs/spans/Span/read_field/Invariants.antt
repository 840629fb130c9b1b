use Rattle.std.proofs.Common.{◌≡◌}
use Rattle.std.specs.Simd.Lanes.{put_chunk}
use Rattle.rv_model.specs.memory.Memory.{Memory, bytes_at}
use Rattle.vector_memory.specs.FieldOrder.{for_each, load_field}
use Rattle.vector_memory.specs.SpanAccess.{span_access}
use Rattle.vector_memory.proofs.spans.Span.read_field.Given as goal

abbrev pub invariant-loop-segment : goal.invariant-loop-segment
invariant-loop-segment g l =
    (m : Memory) → l.bytes ≡ bytes_at m l.self.address l.self.length
    → put_chunk l.first l.fn.file l.group ≡ for_each (load_field m (span_access l.self) l.fill l.field) l.fn.file l.self.body.start l.segment

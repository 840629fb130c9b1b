use Rattle.std.proofs.Common.{◌≡◌, ◌*◌}
use Rattle.std.specs.Simd.Lanes.{put_chunk}
use Rattle.rv_model.specs.memory.Memory.{Memory, put_bytes}
use Rattle.vector_memory.specs.FieldOrder.{for_each, store_field}
use Rattle.vector_memory.specs.SpanAccess.{span_access}
use Rattle.vector_memory.proofs.spans.Span.write_field.Given as goal

abbrev pub invariant-loop-segment : goal.invariant-loop-segment
invariant-loop-segment g l =
    (m : Memory) → put_bytes m l.self.address (put_chunk (l.field * l.self.segments.size) l.fn.bytes l.destination)
    ≡ for_each (store_field l.file (span_access l.self) l.field) (put_bytes m l.self.address l.fn.bytes) l.self.body.start l.segment

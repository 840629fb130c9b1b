use Rattle.std.proofs.Common.{◌≡◌, length}
use Rattle.rv_model.specs.accesses.Transfers.{memory_stored}
use Rattle.rv_model.specs.accesses.VectorAccess.{moved_segment}
use Rattle.rv_model.specs.memory.Memory.{Memory, put_bytes}
use Rattle.vector_memory.specs.SegmentRoom.{place_in}
use Rattle.vector_memory.proofs.segments.Segments.write_lent.Given as goal

abbrev pub invariant-loop-field : goal.invariant-loop-field
invariant-loop-field g l = record {
  count : length l.bytes ≡ length l.fn.bytes;
  stored : (m : Memory) → put_bytes m l.first l.bytes
      ≡ memory_stored (put_bytes m l.first l.fn.bytes) (place_in l.self) l.file (moved_segment l.index l.address l.self.size l.field);
}

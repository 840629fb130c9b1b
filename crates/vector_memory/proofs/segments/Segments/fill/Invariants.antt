use Rattle.std.proofs.Common.{◌≡◌}
use Rattle.rv_model.specs.accesses.Transfers.{registers_loaded}
use Rattle.rv_model.specs.accesses.VectorAccess.{filled_segment}
use Rattle.rv_model.specs.memory.Memory.{Memory}
use Rattle.vector_memory.specs.SegmentRoom.{place_in}
use Rattle.vector_memory.proofs.segments.Segments.fill.Given as goal

abbrev pub invariant-loop-field : goal.invariant-loop-field
invariant-loop-field l =
    (memory : Memory) → l.file ≡ registers_loaded memory (place_in l.self) l.fn.file (filled_segment l.index l.self.size l.field)

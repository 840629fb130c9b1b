use Rattle.std.proofs.Common.{◌≡◌}
use Rattle.rv_model.specs.accesses.Transfers.{registers_loaded}
use Rattle.rv_model.specs.accesses.VectorAccess.{moved_segment}
use Rattle.vector_memory.specs.SegmentRoom.{place_in}
use Rattle.vector_memory.proofs.segments.Segments.load.Given as goal

abbrev pub invariant-loop-field : goal.invariant-loop-field
invariant-loop-field g l =
    l.file ≡ registers_loaded (g.M.UserBytes.memory l.memory) (place_in l.self) l.fn.file (moved_segment l.index l.address l.self.size l.field)

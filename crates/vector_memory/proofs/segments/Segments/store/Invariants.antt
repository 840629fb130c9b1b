use Rattle.std.proofs.Common.{◌≡◌}
use Rattle.rv_model.specs.accesses.Transfers.{memory_stored}
use Rattle.rv_model.specs.accesses.VectorAccess.{moved_segment}
use Rattle.vector_memory.specs.SegmentRoom.{place_in}
use Rattle.vector_memory.proofs.segments.Segments.store.Given as goal

abbrev pub invariant-loop-field : goal.invariant-loop-field
invariant-loop-field g l = record {
  value : g.M.UserBytes.memory l.memory
      ≡ memory_stored (g.M.UserBytes.memory l.fn.memory) (place_in l.self) l.file (moved_segment l.index l.address l.self.size l.field);
  others : l.memory ≡ g.M.UserBytes.with_memory l.fn.memory (g.M.UserBytes.memory l.memory);
}

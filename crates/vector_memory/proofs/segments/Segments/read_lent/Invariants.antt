use Rattle.std.proofs.Common.{◌≡◌}
use Rattle.lent_bytes.specs.Lent.{IsLent}
use Rattle.rv_model.specs.accesses.Transfers.{registers_loaded}
use Rattle.rv_model.specs.accesses.VectorAccess.{moved_segment}
use Rattle.rv_model.specs.declared.memory.Access.TheVariants.{Load}
use Rattle.rv_model.specs.memory.Memory.{Memory}
use Rattle.vector_memory.specs.SegmentRoom.{place_in}
use Rattle.vector_memory.proofs.segments.Segments.read_lent.Given as goal

abbrev pub invariant-loop-field : goal.invariant-loop-field
invariant-loop-field g l =
    (m : Memory) → IsLent Load m l.first l.bytes
    → l.file ≡ registers_loaded m (place_in l.self) l.fn.file (moved_segment l.index l.address l.self.size l.field)

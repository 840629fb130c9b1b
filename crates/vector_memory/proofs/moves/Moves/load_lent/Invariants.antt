use Rattle.rv_model.specs.accesses.VectorAccess.{plan}
use Rattle.rv_model.specs.declared.memory.Access.TheVariants.{Load}
use Rattle.rv_model.specs.memory.Memory.{Memory}
use Rattle.lent_bytes.specs.Lent.{IsLent}
use Rattle.vector_memory.specs.Lent.{ArePartLoaded}
use Rattle.vector_memory.specs.SegmentRoom.{segments_access, place_in}
use Rattle.vector_memory.proofs.moves.Moves.load_lent.Given as goal

abbrev pub invariant-loop-index : goal.invariant-loop-index
invariant-loop-index g l =
    (m : Memory) → IsLent Load m l.first l.bytes
    → ArePartLoaded m (place_in l.self.segments) (plan (segments_access l.self.segments l.self.body (g.A.Addresses.address l.self.addresses)) l.fill)
    l.from l.index l.fn.file l.file

use Rattle.std.proofs.Common.{◌≡◌, false, length}
use Rattle.lent_bytes.specs.Lent.{IsLent}
use Rattle.rv_model.specs.accesses.VectorAccess.{plan}
use Rattle.rv_model.specs.declared.memory.Access.TheVariants.{Store}
use Rattle.rv_model.specs.memory.Memory.{Memory, put_bytes}
use Rattle.vector_memory.specs.Lent.{ArePartStored}
use Rattle.vector_memory.specs.SegmentRoom.{segments_access, place_in}
use Rattle.vector_memory.proofs.moves.Moves.store_lent.Given as goal

abbrev pub invariant-loop-index : goal.invariant-loop-index
invariant-loop-index g l = record {
  count : length l.bytes ≡ length l.fn.bytes;
  stored : (m : Memory) → IsLent Store m l.first l.fn.bytes
      → ArePartStored (place_in l.self.segments) l.file (plan (segments_access l.self.segments l.self.body (g.A.Addresses.address l.self.addresses)) false)
      l.from l.index m (put_bytes m l.first l.bytes);
}

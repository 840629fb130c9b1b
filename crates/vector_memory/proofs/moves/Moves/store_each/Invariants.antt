use Rattle.std.proofs.Common.{◌≡◌, ◌≤◌, false, max}
use Rattle.rv_model.specs.accesses.VectorAccess.{plan}
use Rattle.vector_memory.specs.Lent.{ArePartStored}
use Rattle.vector_memory.specs.SegmentRoom.{segments_access, place_in}
use Rattle.vector_memory.proofs.moves.Moves.store_each.Given as goal

abbrev pub invariant-loop-index : goal.invariant-loop-index
invariant-loop-index g l = record {
  stored : ArePartStored (place_in l.self.segments) l.file (plan (segments_access l.self.segments l.self.body (g.A.Addresses.address l.self.addresses)) false)
      l.self.body.start l.index (g.M.UserBytes.memory l.fn.memory) (g.M.UserBytes.memory l.memory);
  others : l.memory ≡ g.M.UserBytes.with_memory l.fn.memory (g.M.UserBytes.memory l.memory);
  low : l.self.body.start ≤ l.index;
  most : l.index ≤ max l.self.body.start l.stop;
}

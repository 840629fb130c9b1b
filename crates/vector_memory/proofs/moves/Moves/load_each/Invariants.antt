use Rattle.std.proofs.Common.{◌≤◌, max}
use Rattle.rv_model.specs.accesses.VectorAccess.{plan}
use Rattle.vector_memory.specs.Lent.{ArePartLoaded}
use Rattle.vector_memory.specs.SegmentRoom.{segments_access, place_in}
use Rattle.vector_memory.proofs.moves.Moves.load_each.Given as goal

abbrev pub invariant-loop-index : goal.invariant-loop-index
invariant-loop-index g l = record {
  loaded : ArePartLoaded (g.M.UserBytes.memory l.memory) (place_in l.self.segments)
      (plan (segments_access l.self.segments l.self.body (g.A.Addresses.address l.self.addresses)) l.fn.extent.fill_masked_off)
      l.self.body.start l.index l.fn.file l.file;
  low : l.self.body.start ≤ l.index;
  most : l.index ≤ max l.self.body.start l.stop;
}

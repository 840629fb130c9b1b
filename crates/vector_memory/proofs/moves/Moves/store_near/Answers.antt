use Rattle.std.proofs.Common.{false, subst, sym, ap, arith}
use Rattle.rv_model.specs.accesses.VectorAccess.{plan}
use Rattle.vector_memory.specs.Lent.{ArePartStored}
use Rattle.vector_memory.specs.SegmentRoom.{segments_access, place_in}
use Rattle.vector_memory.proofs.LentLaws.{stored_part_none}
use Rattle.vector_memory.proofs.moves.Moves.store_near.Goals as goal

pub returns-in-None-clause-stored : goal.returns-in-None-clause-stored
returns-in-None-clause-stored g c =
    let b = c.args.self.now in
    let m = g.M.UserBytes.memory c.args.memory.now in
    let each = plan (segments_access b.segments b.body (g.A.Addresses.address b.addresses)) false in
    let place = place_in b.segments in
    record {
      order = omega arith;
      most = omega arith;
      stored = subst (λ x. ArePartStored place c.args.file.now each c.args.from c.args.from m x) (sym (ap g.M.UserBytes.memory (c.edit.ensures.unchanged c.in-None.is))) (stored_part_none place c.args.file.now each c.args.from m);
    }

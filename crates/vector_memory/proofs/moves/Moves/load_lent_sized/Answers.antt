use Rattle.rv_model.specs.accesses.VectorAccess.{plan}
use Rattle.vector_memory.specs.SegmentRoom.{segments_access, place_in}
use Rattle.vector_memory.proofs.LentLaws.{part_none}
use Rattle.vector_memory.proofs.moves.Moves.load_lent_sized.Goals as goal

pub returns-in_default-clause-loaded : goal.returns-in_default-clause-loaded
returns-in_default-clause-loaded g c = λ m lent.
    let b = c.args.self.now in
    part_none m (place_in b.segments) (plan (segments_access b.segments b.body (g.A.Addresses.address b.addresses)) c.args.fill) c.args.from c.args.file.now

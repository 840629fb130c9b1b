use Rattle.std.proofs.Common.{arith}
use Rattle.rv_model.specs.accesses.VectorAccess.{plan}
use Rattle.vector_memory.specs.SegmentRoom.{segments_access, place_in}
use Rattle.vector_memory.proofs.LentLaws.{part_more, part_none}
use Rattle.vector_memory.proofs.moves.Moves.load_lent.Goals as goal

pub loop-index-init : goal.loop-index-init
loop-index-init g c = λ m lent.
    let b = c.args.self.now in
    part_none m (place_in b.segments) (plan (segments_access b.segments b.body (g.A.Addresses.address b.addresses)) c.args.fill) c.args.from c.args.file.now

pub loop-index-preserved : goal.loop-index-preserved
loop-index-preserved g c = λ m lent.
    let b = c.args.self.now in
    part_more m (place_in b.segments) (plan (segments_access b.segments b.body (g.A.Addresses.address b.addresses)) c.args.fill) c.args.from
    c.loop-index.index c.args.file.now c.loop-index.file _ (omega arith) (c.loop-index.invariant m lent)
    (c.load_lent_index.ensures.moved c.if-not-load_lent_index.false m lent)

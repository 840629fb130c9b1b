use Rattle.std.proofs.Common.{false, arith}
use Rattle.rv_model.specs.accesses.VectorAccess.{plan}
use Rattle.vector_memory.specs.SegmentRoom.{segments_access, place_in}
use Rattle.vector_memory.proofs.LentLaws.{stored_lent_none}
use Rattle.vector_memory.proofs.moves.Moves.store_lent_sized.Goals as goal

pub returns-in_default : goal.returns-in_default
returns-in_default g c = λ m lent.
    let each = plan (segments_access c.args.self.now.segments c.args.self.now.body (g.A.Addresses.address c.args.self.now.addresses)) false in
    record {
      order = omega arith;
      most = omega arith;
      stored = stored_lent_none (place_in c.args.self.now.segments) c.args.file.now each c.args.from m c.args.first c.args.bytes.now lent;
    }

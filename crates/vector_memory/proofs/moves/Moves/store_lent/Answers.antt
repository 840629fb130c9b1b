use Rattle.std.proofs.Common.{false, refl, ap, ◌∙◌, arith}
use Rattle.rv_model.specs.accesses.VectorAccess.{plan}
use Rattle.rv_model.specs.declared.memory.Access.TheVariants.{Store}
use Rattle.rv_model.specs.memory.Memory.{can_access, put_bytes}
use Rattle.vector_memory.specs.SegmentRoom.{segments_access, place_in}
use Rattle.vector_memory.proofs.LentLaws.{stored_lent_none, stored_part_more}
use Rattle.vector_memory.proofs.moves.Moves.store_lent.Goals as goal

pub loop-index-init : goal.loop-index-init
loop-index-init g c =
    let each = plan (segments_access c.args.self.now.segments c.args.self.now.body (g.A.Addresses.address c.args.self.now.addresses)) false in
    record {
      count = refl;
      stored = λ m lent. stored_lent_none (place_in c.args.self.now.segments) c.args.file.now each c.args.from m c.args.first c.args.bytes.now lent;
    }

pub loop-index-preserved : goal.loop-index-preserved
loop-index-preserved g c =
    let each = plan (segments_access c.args.self.now.segments c.args.self.now.body (g.A.Addresses.address c.args.self.now.addresses)) false in
    let inv = c.loop-index.invariant in
    let first = c.args.first in
    let done = c.if-not-store_lent_index.false in
    record {
      count = c.store_lent_index.auto.bytes ∙ inv.count;
      stored = λ m lent.
          stored_part_more (place_in c.args.self.now.segments) c.args.file.now each c.args.from c.loop-index.index m (put_bytes m first c.loop-index.bytes) _ (omega arith) (inv.stored m lent)
          (c.store_lent_index.ensures.allowed done m (ap (can_access Store m first) inv.count ∙ lent.allowed)) (c.store_lent_index.ensures.value done m);
    }

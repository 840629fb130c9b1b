use Rattle.std.proofs.Common.{◌≡◌, false, subst, sym, ap, ◌∙◌, arith}
use Rattle.rv_model.specs.accesses.VectorAccess.{plan}
use Rattle.vector_memory.specs.Lent.{ArePartStored}
use Rattle.vector_memory.specs.SegmentRoom.{segments_access, place_in}
use Rattle.vector_memory.proofs.LentLaws.{stored_part_none, stored_part_then}
use Rattle.vector_memory.proofs.moves.Moves.store_by_page.Goals as goal

pub loop-index-init : goal.loop-index-init
loop-index-init g c =
    let each = plan (segments_access c.args.self.now.segments c.args.self.now.body (g.A.Addresses.address c.args.self.now.addresses)) false in
    rw c.start-index.ensures
    (record {
      stored = stored_part_none (place_in c.args.self.now.segments) c.args.file.now each c.args.self.now.body.start (g.M.UserBytes.memory c.args.memory.now);
      others = sym (g.met.M.UserBytes.with_memory_same c.args.memory.now);
      low = omega arith;
      most = omega arith;
    })

pub loop-index-preserved : goal.loop-index-preserved
loop-index-preserved g c =
    let memory = g.M.UserBytes.memory in
    let each = plan (segments_access c.args.self.now.segments c.args.self.now.body (g.A.Addresses.address c.args.self.now.addresses)) false in
    let inv = c.loop-index.invariant in
    let now = memory c.loop-index.memory in
    let new = memory c.store_some-next.new.memory in
    let next = c.store_some-next.ensures in
    record {
      stored = stored_part_then (place_in c.args.self.now.segments) c.args.file.now each c.args.self.now.body.start c.loop-index.index c.store_some-next.result (memory c.args.memory.now) now new
          inv.low next.stored.order inv.stored next.stored.stored;
      others = next.others ∙ ap (λ u. g.M.UserBytes.with_memory u new) inv.others ∙ g.met.M.UserBytes.with_memory_twice c.args.memory.now now new;
      low = omega (arith, inv.low, next.stored.order);
      most = omega (arith, inv.low, c.loop-index-test.true, next.stored.order, next.stored.most);
    }

pub returns-then-next-index : goal.returns-then-next-index
returns-then-next-index g c =
    let memory = g.M.UserBytes.memory in
    let b = c.args.self.now in
    let place = place_in b.segments in
    let file = c.args.file.now in
    let old = memory c.args.memory.now in
    let each = plan (segments_access b.segments b.body (g.A.Addresses.address b.addresses)) false in
    let inv = c.loop-index.invariant in
    let now = memory c.loop-index.memory in
    let new = memory c.store_some-next.new.memory in
    let next = c.store_some-next.ensures in
    let same : c.store_some-next.result ≡ c.loop-index.index = omega (arith, c.if-next-index.true) in
    record {
      stored = record {
        order = inv.low;
        most = omega (arith, c.loop-index-test.true);
        stored = subst (λ k. ArePartStored place file each b.body.start k old new) same
            (stored_part_then place file each b.body.start c.loop-index.index c.store_some-next.result old now new inv.low next.stored.order inv.stored next.stored.stored);
      };
      others = next.others ∙ ap (λ u. g.M.UserBytes.with_memory u new) inv.others ∙ g.met.M.UserBytes.with_memory_twice c.args.memory.now now new;
    }

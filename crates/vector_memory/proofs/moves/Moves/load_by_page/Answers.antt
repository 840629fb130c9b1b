use Rattle.std.proofs.Common.{◌≡◌, subst, arith}
use Rattle.rv_model.specs.accesses.VectorAccess.{plan}
use Rattle.vector_memory.specs.Lent.{ArePartLoaded}
use Rattle.vector_memory.specs.SegmentRoom.{segments_access, place_in}
use Rattle.vector_memory.proofs.LentLaws.{part_none, part_then}
use Rattle.vector_memory.proofs.moves.Moves.load_by_page.Goals as goal

pub loop-index-init : goal.loop-index-init
loop-index-init g c =
    let b = c.args.self.now in
    let each = plan (segments_access b.segments b.body (g.A.Addresses.address b.addresses)) c.args.fill in
    rw c.start-index.ensures
    (record {
      loaded = part_none (g.M.UserBytes.memory c.args.memory.now) (place_in b.segments) each b.body.start c.args.file.now;
      low = omega arith;
      most = omega arith;
    })

pub loop-index-preserved : goal.loop-index-preserved
loop-index-preserved g c =
    let b = c.args.self.now in
    let each = plan (segments_access b.segments b.body (g.A.Addresses.address b.addresses)) c.args.fill in
    let inv = c.loop-index.invariant in
    let next = c.load_some-next in
    record {
      loaded = part_then (g.M.UserBytes.memory c.args.memory.now) (place_in b.segments) each b.body.start c.loop-index.index next.result inv.low next.ensures.order
          c.args.file.now c.loop-index.file next.new.file inv.loaded next.ensures.loaded;
      low = omega (arith, inv.low, next.ensures.order);
      most = omega (arith, inv.low, c.loop-index-test.true, next.ensures.order, next.ensures.most);
    }

pub returns-then-next-index-clause-loaded : goal.returns-then-next-index-clause-loaded
returns-then-next-index-clause-loaded g c =
    let m = g.M.UserBytes.memory c.args.memory.now in
    let b = c.args.self.now in
    let each = plan (segments_access b.segments b.body (g.A.Addresses.address b.addresses)) c.args.fill in
    let inv = c.loop-index.invariant in
    let next = c.load_some-next in
    let same : next.result ≡ c.loop-index.index = omega (arith, c.if-next-index.true) in
    subst (λ k. ArePartLoaded m (place_in b.segments) each b.body.start k c.args.file.now next.new.file) same
    (part_then m (place_in b.segments) each b.body.start c.loop-index.index next.result inv.low next.ensures.order c.args.file.now c.loop-index.file next.new.file inv.loaded next.ensures.loaded)

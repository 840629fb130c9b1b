use Rattle.std.proofs.Common.{◌≡◌, subst, sym, ◌∙◌, arith}
use Rattle.std.specs.Prelude.{IsOk}
use Rattle.rv_model.specs.accesses.VectorAccess.{plan}
use Rattle.vector_memory.specs.Lent.{ArePartLoaded}
use Rattle.vector_memory.specs.SegmentRoom.{segments_access, place_in}
use Rattle.vector_memory.proofs.LentLaws.{part_more}
use Rattle.vector_memory.proofs.Outcomes.{when_ok}
use Rattle.vector_memory.proofs.moves.Moves.load_some.Goals as goal

pub returns-then-is_ok-clause-loaded : goal.returns-then-is_ok-clause-loaded
returns-then-is_ok-clause-loaded g c =
    let m = g.M.UserBytes.memory c.args.memory.now in
    let b = c.args.self.now in
    let place = place_in b.segments in
    let each = plan (segments_access b.segments b.body (g.A.Addresses.address b.addresses)) c.args.fill in
    let file = c.args.file.now in
    let mid = c.load_near-next.new.file in
    let same : c.load_near-next.result ≡ c.args.index = omega (arith, c.if-next-index.true) in
    let well : IsOk c.load_index.result = sym c.is_ok.ensures.value ∙ c.if-is_ok.true in
    part_more m place each c.args.index c.args.index file mid c.load_index.new.file (omega arith)
    (subst (λ k. ArePartLoaded m place each c.args.index k file mid) same c.load_near-next.ensures.loaded)
    (record { allowed = c.load_index.ensures.ok.0 well; value = when_ok c.load_index.result well c.load_index.ensures.value })

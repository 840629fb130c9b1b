use Rattle.std.proofs.Common.{◌≡◌, ◌∙◌, ◌+◌, ◌-◌, ◌*◌, ◌<◌, ℕ, false, List, ap, refl, sym, subst, map, arith}
use Rattle.std.proofs.lemmas.Bool.Decides.{nat_tests}
use Rattle.rv_model.specs.accesses.Transfers.{Transfer}
use Rattle.rv_model.specs.accesses.VectorAccess.{VectorAccess, plan, unit_direction}
use Rattle.rv_model.specs.declared.instructions.operations.Direction.{Direction}
use Rattle.rv_model.proofs.access_lemmas.Segments.{plan_active, plan_kept}
use Rattle.vector_memory.specs.MovedElements.{HasSeen, MovedElement, element_of}
use Rattle.vector_memory.specs.SegmentRoom.{place_in, segments_access}
use Rattle.vector_memory.proofs.ShownElements.{index_more, room_for, seen_as_many, seen_at_first, seen_more, seen_none, seen_within}
use Rattle.vector_memory.proofs.moves.Moves.show.Goals as goal
use Rattle.vector_memory.proofs.moves.Moves.show.Goals.{then-is_enabled, else-is_enabled}

pub loop-index-init : goal.loop-index-init
loop-index-init g c =
    let m = c.args.self.now in
    let v = c.args.viewer.now in
    let at : c.start-index.result ≡ m.body.start = c.start-index.ensures in
    record {
      low = omega (arith, at);
      high = omega (arith, at);
      shown = seen_at_first (unit_direction c.args.op) m.segments m.body (g.A.Addresses.address m.addresses) c.args.file.now g.V.Viewer.saw g.V.Viewer.has_room g.met.V.Viewer.fewer
          v c.start-index.result (omega (arith, at)) (g.met.V.Viewer.saw_none v);
    }

pub show-requires-clause-viewer : goal.show-requires-clause-viewer
show-requires-clause-viewer g c =
    let m = c.args.self.now in
    let i : ℕ = c.loop-index.index in
    let below : i < m.body.end = grind (arith, nat_tests, c.loop-index-test.true, c.end-index-end.ensures.value) in
    c.loop-index.invariant.shown.left m.segments.fields
    (room_for g.V.Viewer.has_room g.met.V.Viewer.fewer c.args.viewer.now (m.segments.fields + 8 * (i - m.body.start)) 2048 (omega (arith, below, m.most, m.room.fields)) c.requires)

pub loop-index-preserved : goal.loop-index-preserved
loop-index-preserved g c =
    let m = c.args.self.now in
    let v = c.loop-index.viewer in
    let i : ℕ = c.loop-index.index in
    let d : Direction = unit_direction c.args.op in
    let file : List ℕ = c.args.file.now in
    let a : VectorAccess = segments_access m.segments m.body (g.A.Addresses.address m.addresses) in
    let known : List Transfer → List MovedElement = map (element_of d (place_in m.segments) file) in
    let saw = g.V.Viewer.saw in
    let room = g.V.Viewer.has_room in
    let fewer = g.met.V.Viewer.fewer in
    record {
      low = omega (arith, c.loop-index.invariant.low);
      high = grind (arith, nat_tests, c.loop-index-test.true, c.end-index-end.ensures.value);
      shown = seen_more saw room fewer g.met.V.Viewer.saw_more _ _ _ (8 * (i - m.body.start)) 8 _ _ (known (plan a false i)) _ (omega (arith, c.loop-index.invariant.low))
          (index_more d m.segments m.body (g.A.Addresses.address m.addresses) file i c.loop-index.invariant.low) c.loop-index.invariant.shown
          (elim c.if-is_enabled.branch [
            | then-is_enabled w ↦ subst (HasSeen saw room 8 v (known (plan a false i))) (sym w.viewer-is)
                (seen_within saw room fewer v _ m.segments.fields 8 _ _ m.room.fields
                (ap known (plan_active a false i (sym c.is_enabled.ensures ∙ w.if-is_enabled.true)) ∙ rw (c.unit_direction-direction.ensures, w.address-address.ensures) refl) w.show.ensures)
            | else-is_enabled w ↦ subst (HasSeen saw room 8 v (known (plan a false i))) (sym w.viewer-is)
                (subst (λ (ts : List Transfer). HasSeen saw room 8 v (known ts) v) (sym (plan_kept a false i (sym c.is_enabled.ensures ∙ w.if-is_enabled.false) refl)) (seen_none saw room fewer v 8 (g.met.V.Viewer.saw_none v)))
          ]);
    }

pub returns : goal.returns
returns g c =
    let m = c.args.self.now in
    let i : ℕ = c.loop-index.index in
    let v = c.args.viewer.now in
    let saw = g.V.Viewer.saw in
    let room = g.V.Viewer.has_room in
    let all : i - m.body.start ≡ m.body.end - m.body.start = grind (arith, nat_tests, c.loop-index-test.false, c.end-index-end.ensures.value) in
    seen_within saw room g.met.V.Viewer.fewer v _ (8 * (m.body.end - m.body.start)) 2048 _ _ (omega (arith, m.most)) refl
    (seen_as_many (unit_direction c.args.op) m.segments m.body (g.A.Addresses.address m.addresses) c.args.file.now saw room v c.loop-index.viewer i m.body.end all c.loop-index.invariant.shown)

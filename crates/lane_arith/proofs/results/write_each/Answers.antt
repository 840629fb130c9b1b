use Rattle.std.proofs.Common.{ℕ, ◌*◌, ◌+◌, ◌<◌, ◌≤◌, arith, length, sym, ap, ◌∙◌}
use Rattle.std.specs.Int.{bytes_low_first}
use lib.Lanes.{put_chunk}
use Rattle.rv_model.specs.elements.Elements.{Body}
use Rattle.rv_model.specs.vector.Groups.{width_bytes}
use Rattle.rv_model.proofs.element_lemmas.Sets.{step_result, step_ones, step_off, body_ends, room_for}
use Rattle.lane_arith.proofs.results.write_each.Goals as goal
use Rattle.lane_arith.proofs.results.write_each.Goals.{then-is_enabled, else-is_enabled+then-fill_masked_off, else-is_enabled+else-fill_masked_off}

pub loop-i-preserved : goal.loop-i-preserved
loop-i-preserved g c =
    let k : ℕ = width_bytes g.L.Lane.width in
    let body : Body = c.args.body.now in
    let from : body.start ≤ c.loop-i.i = omega (arith, c.loop-i.auto.i, c.start-i.ensures) in
    let to : c.loop-i.i < body.end = omega (arith, c.loop-i-test.true, c.end-i-end.ensures.value) in
    let room : k * c.loop-i.i + k ≤ length c.args.destination.now = room_for _ _ _ _ to c.requires.room in
    elim c.if-is_enabled.branch [
      | then-is_enabled w ↦
          step_result _ body _ _ _ _ _ _ _ from to c.loop-i.invariant room (sym c.is_enabled.ensures ∙ w.if-is_enabled.true)
          (w.destination-is ∙ w.store.ensures ∙ ap (λ n. put_chunk (k * c.loop-i.i) c.loop-i.destination (bytes_low_first 0 k n)) w.result.ensures)
      | else-is_enabled+then-fill_masked_off w ↦
          step_ones _ body _ _ _ _ _ _ _ from to c.loop-i.invariant room (sym c.is_enabled.ensures ∙ w.if-is_enabled.false) w.if-fill_masked_off.true
          (w.destination-is ∙ w.store-then-fill_masked_off.ensures ∙ ap (λ n. put_chunk (k * c.loop-i.i) c.loop-i.destination (bytes_low_first 0 k n)) w.all_ones.ensures)
      | else-is_enabled+else-fill_masked_off w ↦
          step_off _ body _ _ _ _ _ _ _ from to c.loop-i.invariant (sym c.is_enabled.ensures ∙ w.if-is_enabled.false) w.if-fill_masked_off.false
          w.destination-is
    ]

pub returns : goal.returns
returns g c = body_ends _ c.args.body.now _ _ _ _ _ (omega (arith, c.loop-i-test.false, c.end-i-end.ensures.value)) c.loop-i.invariant

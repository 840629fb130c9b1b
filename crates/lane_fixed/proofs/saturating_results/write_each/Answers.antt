use Rattle.std.proofs.Common.{ℕ, Bool, ◌*◌, ◌+◌, ◌<◌, ◌≤◌, ◌||◌, arith, length, sym, ap, ◌∙◌}
use Rattle.std.specs.Int.{bytes_low_first}
use lib.Lanes.{put_chunk}
use Rattle.rv_model.specs.elements.Elements.{Body}
use Rattle.rv_model.specs.vector.Groups.{width_bytes}
use Rattle.rv_model.proofs.element_lemmas.ActiveElements.{some_begins, some_ends, some_off, some_step}
use Rattle.rv_model.proofs.element_lemmas.Sets.{step_result, step_ones, step_off, body_begins, body_ends, room_for}
use Rattle.lane_fixed.proofs.saturating_results.write_each.Goals as goal
use Rattle.lane_fixed.proofs.saturating_results.write_each.Goals.{then-is_enabled, else-is_enabled+then-fill_masked_off, else-is_enabled+else-fill_masked_off}

pub loop-i-init : goal.loop-i-init
loop-i-init g c = record {
  writes = rw c.start-i.ensures (body_begins _ c.copied-body.result _ _ _);
  saturated = sym (some_begins c.copied-body.result _ _ (omega (arith, c.start-i.ensures)));
}

pub loop-i-preserved : goal.loop-i-preserved
loop-i-preserved g c =
    let k : ℕ = width_bytes g.L.Lane.width in
    let body : Body = c.copied-body.result in
    let i : ℕ = c.loop-i.i in
    let saturates : ℕ → Bool = g.R.SaturatingResults.saturates c.args.results.now in
    let from : body.start ≤ i = omega (arith, c.loop-i.auto.i, c.start-i.ensures) in
    let to : i < body.end = omega (arith, c.loop-i-test.true, c.end-i-end.ensures.value) in
    let room : k * i + k ≤ length c.args.destination.now = room_for _ _ _ _ to (rw c.copied-body.ensures c.requires.room) in
    elim c.if-is_enabled.branch [
      | then-is_enabled w ↦ record {
        writes = step_result _ body _ _ _ _ _ _ _ from to c.loop-i.invariant.writes room (sym c.is_enabled.ensures ∙ w.if-is_enabled.true)
            (w.destination-is ∙ w.store.ensures
            ∙ ap (λ n. put_chunk (k * i) c.loop-i.destination (bytes_low_first 0 k n)) w.result_in-result.ensures.value);
        saturated = w.saturated-is ∙ ap (λ b. c.loop-i.saturated || b) w.result_in-result.ensures.saturated
            ∙ ap (λ b. b || saturates i) c.loop-i.invariant.saturated
            ∙ sym (some_step body saturates i from to (sym c.is_enabled.ensures ∙ w.if-is_enabled.true));
      }
      | else-is_enabled+then-fill_masked_off w ↦ record {
        writes = step_ones _ body _ _ _ _ _ _ _ from to c.loop-i.invariant.writes room (sym c.is_enabled.ensures ∙ w.if-is_enabled.false)
            w.if-fill_masked_off.true
            (w.destination-is ∙ w.store-then-fill_masked_off.ensures
            ∙ ap (λ n. put_chunk (k * i) c.loop-i.destination (bytes_low_first 0 k n)) w.all_ones.ensures);
        saturated = w.saturated-is ∙ c.loop-i.invariant.saturated ∙ sym (some_off body saturates i (sym c.is_enabled.ensures ∙ w.if-is_enabled.false));
      }
      | else-is_enabled+else-fill_masked_off w ↦ record {
        writes = step_off _ body _ _ _ _ _ _ _ from to c.loop-i.invariant.writes (sym c.is_enabled.ensures ∙ w.if-is_enabled.false) w.if-fill_masked_off.false
            w.destination-is;
        saturated = w.saturated-is ∙ c.loop-i.invariant.saturated ∙ sym (some_off body saturates i (sym c.is_enabled.ensures ∙ w.if-is_enabled.false));
      }
    ]

pub returns : goal.returns
returns g c = record {
  writes = rw (sym c.copied-body.ensures) (body_ends _ c.copied-body.result _ _ _ _ _ (omega (arith, c.loop-i-test.false, c.end-i-end.ensures.value))
      c.loop-i.invariant.writes);
  saturated = rw (sym c.copied-body.ensures) (c.loop-i.invariant.saturated
      ∙ some_ends c.copied-body.result _ _ (omega (arith, c.loop-i-test.false, c.end-i-end.ensures.value)));
}

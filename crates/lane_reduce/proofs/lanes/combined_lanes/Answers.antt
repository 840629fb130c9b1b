use Rattle.std.proofs.Common.{ℕ, ◌+◌, ◌/◌, ◌^◌, ◌<◌, ◌≡◌, sym, ap, ◌∙◌, arith}
use mir.Val.{bits}
use Rattle.rv_model.specs.vector.Groups.{width_bytes}
use Rattle.lane_arith.proofs.MaskBits.{count_positive}
use Rattle.lane_reduce.specs.AnyOrder.{AnyOrder, combination, neutral_number, total}
use Rattle.lane_reduce.proofs.Folds.{halves_combined, total_one}
use Rattle.lane_reduce.proofs.Laws.{any_order}
use Rattle.lane_reduce.proofs.MovedLanes.{count_power, half_power, one_left}
use Rattle.lane_reduce.proofs.lanes.combined_lanes.Goals as goal

pub loop-count-init : goal.loop-count-init
loop-count-init g c = record {
  within = omega (arith, c.count-count.ensures);
  power = rw c.count-count.ensures (count_power g.L.Lane.width g.L.Lane.count g.met.L.Lane.fills);
  bound = c.requires;
  so_far = ap (total (combination c.args.op g.L.Lane.width) (neutral_number c.args.op g.L.Lane.width) (g.L.Lane.lane c.args.lanes)) c.count-count.ensures;
}

pub loop-count-preserved : goal.loop-count-preserved
loop-count-preserved g c =
    let op = c.args.op in
    let w = g.L.Lane.width in
    let p : ℕ = 2 ^ bits w in
    let f = combination op w in
    let e : ℕ = neutral_number op w in
    let n : ℕ = c.loop-count.count / 2 in
    let law : AnyOrder f e p = any_order op w in
    let was : ℕ → ℕ = g.L.Lane.lane c.loop-count.lanes in
    let now : ℕ → ℕ = g.L.Lane.lane c.in_ok-lanes.lanes in
    let half = half_power c.loop-count.count (omega (arith, c.loop-count-test.true)) c.loop-count.invariant.power in
    let twice : c.loop-count.count ≡ n + n = half.1 in
    let lane : (i : ℕ) → i < g.L.Lane.count → now i ≡ f (was i) (g.L.Lane.lane c.moved_down.result i) = c.in_ok-lanes.ensures in
    record {
      within = omega (arith, c.loop-count.invariant.within);
      power = half.0;
      bound = λ i h. rw (lane i h) (law.closed (was i) (g.L.Lane.lane c.moved_down.result i));
      so_far = halves_combined f e p law was now n
          (λ i h. c.loop-count.invariant.bound i (omega (arith, h, twice, c.loop-count.invariant.within)))
          (λ i h. lane i (omega (arith, h, twice, c.loop-count.invariant.within))
          ∙ ap (f (was i)) (c.moved_down.ensures.value i (omega (arith, h, twice, c.loop-count.invariant.within))))
          ∙ ap (total f e was) (sym twice) ∙ c.loop-count.invariant.so_far;
    }

pub returns-clause-bound : goal.returns-clause-bound
returns-clause-bound g c = c.loop-count.invariant.bound 0 (count_positive (width_bytes g.L.Lane.width) g.L.Lane.count g.met.L.Lane.fills)

pub returns-clause-value : goal.returns-clause-value
returns-clause-value g c =
    let op = c.args.op in
    let w = g.L.Lane.width in
    let lanes : ℕ → ℕ = g.L.Lane.lane c.loop-count.lanes in
    let some : 0 < g.L.Lane.count = count_positive (width_bytes w) g.L.Lane.count g.met.L.Lane.fills in
    let one : c.loop-count.count ≡ 1 = one_left c.loop-count.count (omega (arith, c.loop-count-test.false)) c.loop-count.invariant.power in
    sym (total_one (combination op w) (neutral_number op w) (2 ^ bits w) (any_order op w) lanes (c.loop-count.invariant.bound 0 some))
    ∙ ap (total (combination op w) (neutral_number op w) lanes) (sym one) ∙ c.loop-count.invariant.so_far

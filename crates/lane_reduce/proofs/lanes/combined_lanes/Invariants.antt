use Rattle.std.proofs.Common.{ℕ, ◌^◌, ◌<◌, ◌≤◌, ◌≡◌}
use mir.Val.{bits}
use Rattle.lane_reduce.specs.AnyOrder.{combination, neutral_number, total}
use Rattle.lane_reduce.proofs.lanes.combined_lanes.Given as goal

abbrev pub invariant-loop-count : goal.invariant-loop-count
invariant-loop-count g l = record {
  within : l.count ≤ g.L.Lane.count;
  power : (j : ℕ) × (l.count ≡ 2 ^ j);
  bound : (i : ℕ) → i < g.L.Lane.count → g.L.Lane.lane l.lanes i < 2 ^ bits g.L.Lane.width;
  so_far : total (combination l.op g.L.Lane.width) (neutral_number l.op g.L.Lane.width) (g.L.Lane.lane l.lanes) l.count
      ≡ total (combination l.op g.L.Lane.width) (neutral_number l.op g.L.Lane.width) (g.L.Lane.lane l.fn.lanes) g.L.Lane.count;
}

abbrev pub decreases-loop-count : goal.decreases-loop-count
decreases-loop-count g l = l.count

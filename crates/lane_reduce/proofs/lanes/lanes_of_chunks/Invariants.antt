use Rattle.std.proofs.Common.{ℕ, ◌*◌, ◌^◌, ◌<◌, ◌≡◌}
use Rattle.std.specs.Prelude.{if◌then◌else◌}
use mir.Val.{bits}
use Rattle.rv_model.specs.elements.Elements.{element, is_active}
use Rattle.rv_model.specs.vector.Groups.{width_bytes}
use Rattle.lane_reduce.specs.AnyOrder.{combination, neutral_number, total}
use Rattle.lane_reduce.proofs.lanes.lanes_of_chunks.Given as goal

abbrev pub invariant-loop-c : goal.invariant-loop-c
invariant-loop-c g l = record {
  bound : (i : ℕ) → i < g.L.Lane.count → g.L.Lane.lane l.lanes i < 2 ^ bits g.L.Lane.width;
  so_far : total (combination l.op g.L.Lane.width) (neutral_number l.op g.L.Lane.width) (g.L.Lane.lane l.lanes) g.L.Lane.count
      ≡ total (combination l.op g.L.Lane.width) (neutral_number l.op g.L.Lane.width)
      (λ i. if is_active l.body i then element (width_bytes g.L.Lane.width) l.elements i else neutral_number l.op g.L.Lane.width) (g.L.Lane.count * l.c);
}

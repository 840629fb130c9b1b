use Rattle.std.proofs.Common.{◌≡◌, map}
use Rattle.std.specs.List.{filter, fold, range_with_len}
use Rattle.rv_model.specs.elements.Elements.{element, is_active}
use Rattle.rv_model.specs.vector.Groups.{width_bytes}
use Rattle.lane_reduce.proofs.combine.reduce.Given as goal

abbrev pub invariant-loop-i : goal.invariant-loop-i
invariant-loop-i g l =
    g.R.Lane.value l.so_far
    ≡ fold (g.C.Combine.combined l.combine) (g.R.Lane.value l.fn.first)
    (map (element (width_bytes g.E.Lane.width) l.elements) (filter (is_active l.body) (range_with_len 0 l.i)))

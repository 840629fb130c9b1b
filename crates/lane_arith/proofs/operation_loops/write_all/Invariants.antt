use Rattle.std.proofs.Common.{nat_lt}
use mathlib.Core.Bool.{◌&&◌}
use Rattle.rv_model.specs.elements.Elements.{element, in_range}
use Rattle.rv_model.specs.elements.Formulas.{formula, wrap}
use Rattle.rv_model.specs.lending.Writes.{Writes}
use Rattle.rv_model.specs.vector.Groups.{width_bytes}
use Rattle.lane_arith.proofs.operation_loops.write_all.Given as goal

abbrev pub invariant-loop-i : goal.invariant-loop-i
invariant-loop-i g l =
    let k = width_bytes g.L.Lane.width in
    Writes k (λ e. in_range l.start l.end e && nat_lt e l.i)
    (λ e. wrap g.L.Lane.width (formula g.O.Operation.op g.L.Lane.width (element k l.a e) (element k l.b e)))
    l.initial.destination l.destination

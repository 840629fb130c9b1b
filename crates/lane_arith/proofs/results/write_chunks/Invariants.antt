use Rattle.std.proofs.Common.{◌*◌, nat_lt, false}
use mathlib.Core.Bool.{◌&&◌}
use Rattle.rv_model.specs.elements.Elements.{is_changed, result_or_ones}
use Rattle.rv_model.specs.lending.Writes.{Writes}
use Rattle.rv_model.specs.elements.Formulas.{ones}
use Rattle.rv_model.specs.vector.Groups.{width_bytes}
use Rattle.lane_arith.proofs.results.write_chunks.Given as goal

abbrev pub invariant-loop-c : goal.invariant-loop-c
invariant-loop-c g l =
    Writes (width_bytes g.L.Lane.width) (λ e. is_changed l.body l.fill_masked_off false e && nat_lt e (l.count * l.c))
    (result_or_ones l.body (g.R.Results.number l.results) (ones g.L.Lane.width))
    l.initial.destination l.destination

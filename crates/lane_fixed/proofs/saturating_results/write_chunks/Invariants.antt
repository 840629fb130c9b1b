use Rattle.std.proofs.Common.{◌≡◌, ◌*◌, nat_lt, false}
use mathlib.Core.Bool.{◌&&◌}
use Rattle.rv_model.specs.elements.Elements.{is_changed, result_or_ones}
use Rattle.rv_model.specs.lending.Writes.{Writes}
use Rattle.rv_model.specs.elements.Formulas.{ones}
use Rattle.rv_model.specs.vector.Groups.{width_bytes}
use Rattle.rv_model.proofs.element_lemmas.ActiveElements.{some_before}
use Rattle.lane_fixed.proofs.saturating_results.write_chunks.Given as goal

abbrev pub invariant-loop-c : goal.invariant-loop-c
invariant-loop-c g l =
    record {
      writes : Writes (width_bytes g.L.Lane.width) (λ e. is_changed l.body l.fill_masked_off false e && nat_lt e (l.count * l.c))
          (result_or_ones l.body (g.R.SaturatingResults.number l.results) (ones g.L.Lane.width))
          l.initial.destination l.destination;
      saturated : l.saturated ≡ some_before l.body (g.R.SaturatingResults.saturates l.results) (l.count * l.c);
    }

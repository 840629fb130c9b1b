use Rattle.std.proofs.Common.{◌∙◌}
use Rattle.std.specs.Int.{from_bool, int_shr}
use Rattle.rv_model.specs.elements.FixedPoint.{rounds_up}
use Rattle.rv_model.proofs.element_lemmas.Numbers.{wrap-add}
use Rattle.lane_fixed.proofs.chunk.averages.Goals as goal

pub returns-clause-value : goal.returns-clause-value
returns-clause-value g c = λ i v h is.
    let w = g.L.Lane.width in
    let half = c.halves-halves.ensures i v h is in
    let more = c.increments-increments.ensures i v h is.0 half in
    c.sums.ensures i h ∙ rw (half, more) (wrap-add w (int_shr v 1) (from_bool (rounds_up c.args.mode 1 v)))

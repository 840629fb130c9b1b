use Rattle.std.proofs.Common.{ap, arith, set}
use Rattle.rv_model.specs.elements.Elements.{is_active}
use Rattle.rv_model.proofs.element_lemmas.Bits.{rebuild_step}
use Rattle.lane_arith.proofs.MaskWords.{rebuild_rest}
use Rattle.lane_arith.proofs.mask_results.write_in_turn.Goals as goal

pub loop-i-preserved : goal.loop-i-preserved
loop-i-preserved g c =
    rebuild_step (is_active c.args.body.now) (g.R.MaskResults.bit c.args.results.now) c.loop-i.i c.args.destination.now c.loop-i.destination _
    (omega (arith, c.loop-i-test.true, c.min-end.ensures)) c.loop-i.invariant (ap (set c.loop-i.destination c.loop-i.i) c.byte_with_bits.ensures)

pub returns : goal.returns
returns g c =
    rebuild_rest (is_active c.args.body.now) (g.R.MaskResults.bit c.args.results.now) c.loop-i.i c.args.destination.now c.loop-i.destination
    (λ x few past. c.bytes_past_the_body.ensures x
    (omega (arith, c.loop-i-test.false, c.min-end.ensures, c.div_ceil.ensures, c.end.ensures.value, few, past)))
    c.loop-i.invariant

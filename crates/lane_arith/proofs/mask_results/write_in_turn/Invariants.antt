use Rattle.rv_model.specs.elements.Elements.{is_active}
use Rattle.rv_model.proofs.element_lemmas.Bits.{RebuiltTo}
use Rattle.lane_arith.proofs.mask_results.write_in_turn.Given as goal

abbrev pub invariant-loop-i : goal.invariant-loop-i
invariant-loop-i g l = RebuiltTo (is_active l.body) (g.R.MaskResults.bit l.results) l.i l.fn.destination l.destination

use Rattle.std.proofs.Common.{◌*◌}
use Rattle.rv_model.specs.elements.Elements.{is_active}
use Rattle.rv_model.proofs.element_lemmas.Bits.{RebuiltTo}
use Rattle.lane_arith.proofs.mask_results.write_words.Given as goal

abbrev pub invariant-loop-word : goal.invariant-loop-word
invariant-loop-word g l = RebuiltTo (is_active l.body) (g.R.MaskResults.bit l.results) (4 * l.word) l.initial.destination l.destination

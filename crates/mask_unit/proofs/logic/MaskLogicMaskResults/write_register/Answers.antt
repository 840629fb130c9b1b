use Rattle.std.proofs.Common.{◌<◌, arith}
use Rattle.rv_model.specs.elements.Elements.{is_active, mask_bit}
use Rattle.rv_model.specs.elements.Masks.{mask_logic_formula}
use Rattle.rv_model.proofs.element_lemmas.Bits.{same_bits}
use Rattle.rv_model.proofs.element_lemmas.Sets.{active_end}
use Rattle.mask_unit.proofs.logic.MaskLogicMaskResults.write_register.Goals as goal

pub returns-clause-done : goal.returns-clause-done
returns-clause-done g c = λ e.
    same_bits (is_active c.args.body.now) (mask_bit c.logic.result)
    (λ i. mask_logic_formula c.args.self.now.op (mask_bit c.args.self.now.a.now i) (mask_bit c.args.self.now.b.now i)) _ _
    (λ i h. let inside : i < c.args.body.now.end = active_end c.args.body.now i h in c.logic.ensures i (omega (arith, inside, c.end-end.ensures)))
    (c.put_bits.ensures.done e)

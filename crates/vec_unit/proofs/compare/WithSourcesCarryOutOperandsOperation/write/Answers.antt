use Rattle.std.proofs.Common.{◌∙◌, ap, arith, false}
use Rattle.std.specs.Prelude.{◌&&◌, not}
use Rattle.rv_model.specs.elements.Arithmetic.{carry_out_result, second_element}
use Rattle.rv_model.specs.elements.Elements.{Body, is_active, mask_bit}
use Rattle.rv_model.specs.elements.Formulas.{carry_out_formula}
use Rattle.rv_model.specs.vector.Groups.{GroupType, register_of}
use Rattle.rv_model.proofs.element_lemmas.Bits.{same_bits}
use Rattle.rv_model.proofs.element_lemmas.Sets.{active_end}
use Rattle.vec_unit.proofs.CopiedOperands.{three_operands}
use Rattle.vec_unit.specs.declared.operands.SecondOperand.{SecondOperand}
use Rattle.vec_unit.proofs.compare.WithSourcesCarryOutOperandsOperation.write.Goals as goal

pub returns : goal.returns
returns g c =
    let t : GroupType = record { width = g.L.Lane.width; emul = c.args.to.emul } in
    let o = c.args.self.now in
    let file = c.args.file.now in
    let x = c.args.scalar.now in
    let body : Body = c.args.body.now in
    c.set_mask.ensures body (carry_out_result t o.op.op o.op.alone o.vs2 o.source file x)
    (rw (← c.register_copy-bits.ensures) (
    same_bits (is_active body) _ (carry_out_result t o.op.op o.op.alone o.vs2 o.source file x) c.register_copy-bits.result c.write_mask_results.new.destination
    (λ i active.
    three_operands t t (λ a b bit. carry_out_formula o.op.op t.width a b (not o.op.alone && bit))
    c.group-a.result.now c.second_in_place-b.result.now file o.vs2 body.end (second_element t false o.source file x)
    (mask_bit c.mask.result.now) (mask_bit (register_of file 0)) c.group-a.ensures.value
    (λ j h. c.second_in_place-b.ensures.elements j (omega (arith, h, c.end.ensures.value))
    ∙ ap (λ (s : SecondOperand). second_element (record { width = t.width; emul = s.emul }) s.unsigned s.source file x j) c.signed_operand-operand.ensures)
    (λ j. ap (λ bytes. mask_bit bytes j) (c.mask.ensures ∙ c.requires.mask)) i (active_end body i active))
    c.write_mask_results.ensures))

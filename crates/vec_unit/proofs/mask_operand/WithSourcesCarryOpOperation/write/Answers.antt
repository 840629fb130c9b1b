use Rattle.std.proofs.Common.{◌∙◌, ap, arith, false}
use Rattle.rv_model.specs.elements.Arithmetic.{carry_result, second_element}
use Rattle.rv_model.specs.vector.Groups.{GroupType, register_of}
use Rattle.rv_model.specs.elements.Elements.{mask_bit}
use Rattle.rv_model.specs.elements.Formulas.{carry_formula, wrap}
use Rattle.rv_model.proofs.element_lemmas.Arithmetic.{results_same}
use Rattle.vec_unit.proofs.CopiedOperands.{three_operands}
use Rattle.vec_unit.specs.declared.operands.SecondOperand.{SecondOperand}
use Rattle.vec_unit.proofs.mask_operand.WithSourcesCarryOpOperation.write.Goals as goal

pub returns : goal.returns
returns g c =
    let t : GroupType = record { width = g.L.Lane.width; emul = c.args.to.emul } in
    let o = c.args.self.now in
    let to = c.args.to in
    let file = c.args.file.now in
    let x = c.args.scalar.now in
    c.write_group.ensures
    ∙ results_same t to.vd c.args.body.now to.fill_masked_off to.fill_tail
    _ (carry_result t o.op o.vs2 o.source file x) file
    (three_operands t t (λ a b bit. wrap t.width (carry_formula o.op a b bit))
    c.group_copy_mut.result.now c.second_copy-b.result.now file o.vs2
    c.args.body.now.end (second_element t false o.source file x)
    (mask_bit c.mask.result.now) (mask_bit (register_of file 0)) c.group_copy_mut.ensures.value
    (λ i h. c.second_copy-b.ensures.elements i (omega (arith, h, c.end.ensures.value))
    ∙ ap (λ (s : SecondOperand). second_element (record { width = t.width; emul = s.emul }) s.unsigned s.source file x i) c.signed_operand-operand.ensures)
    (λ i. ap (λ bytes. mask_bit bytes i) (c.mask.ensures ∙ c.requires.mask)))

use Rattle.std.proofs.Common.{◌∙◌, ap, arith, false}
use Rattle.rv_model.specs.elements.Arithmetic.{group_element, multiply_add_result, second_element}
use Rattle.rv_model.specs.vector.Groups.{GroupType, width_bytes}
use Rattle.rv_model.specs.elements.Elements.{element}
use Rattle.rv_model.specs.elements.Formulas.{multiply_add_formula, wrap}
use Rattle.rv_model.proofs.element_lemmas.Arithmetic.{results_same}
use Rattle.vec_unit.proofs.CopiedOperands.{three_operands}
use Rattle.vec_unit.specs.declared.operands.SecondOperand.{SecondOperand}
use Rattle.vec_unit.proofs.multiply_add.WithSourcesMultiplyAddOpOperation.write.Goals as goal

pub returns : goal.returns
returns g c =
    let t : GroupType = record { width = g.L.Lane.width; emul = c.args.to.emul } in
    let o = c.args.self.now in
    let to = c.args.to in
    let file = c.args.file.now in
    let x = c.args.scalar.now in
    c.write_group.ensures
    ∙ results_same t to.vd c.args.body.now to.fill_masked_off to.fill_tail
    _ (multiply_add_result t o.op to.vd o.vs2 o.source file x) file
    (three_operands t t (λ a b d. wrap t.width (multiply_add_formula o.op a b d))
    c.group_copy_mut.result.now c.second_copy-b.result.now file o.vs2
    c.args.body.now.end (second_element t false o.source file x)
    (λ i. element (width_bytes t.width) c.group_copy_mut-2.result.now i) (group_element t file to.vd) c.group_copy_mut.ensures.value
    (λ i h. c.second_copy-b.ensures.elements i (omega (arith, h, c.end.ensures.value))
    ∙ ap (λ (s : SecondOperand). second_element (record { width = t.width; emul = s.emul }) s.unsigned s.source file x i) c.signed_operand-operand.ensures)
    (λ i. ap (λ bytes. element (width_bytes t.width) bytes i) c.group_copy_mut-2.ensures.value))

use Rattle.std.proofs.Common.{◌∙◌, ap, arith, false}
use Rattle.rv_model.specs.elements.Arithmetic.{group_element, second_element, widen_multiply_add_result}
use Rattle.rv_model.specs.vector.Groups.{GroupType, width_bytes}
use Rattle.rv_model.specs.elements.Elements.{element}
use Rattle.rv_model.specs.elements.Formulas.{ones, widen_multiply_add_formula, wrap}
use Rattle.vec_unit.proofs.CopiedOperands.{three_operands}
use Rattle.vec_unit.proofs.MadeResults.{active_written}
use Rattle.vec_unit.specs.declared.operands.SecondOperand.{SecondOperand}
use Rattle.vec_unit.proofs.widen.WithSourcesWidenAccumulateTwoWidths.write.Goals as goal

pub returns-clause-writes : goal.returns-clause-writes
returns-clause-writes g c =
    let t : GroupType = record { width = g.D.Lane.width; emul = c.args.groups.emul } in
    let u : GroupType = record { width = g.O.Lane.width; emul = c.args.groups.other } in
    let o = c.args.self.now in
    let file = c.args.file.now in
    let x = c.args.scalar.now in
    active_written (width_bytes t.width) c.args.body.now _ (widen_multiply_add_result u t o.op.op o.op.vd o.vs2 o.source file x) (ones t.width) c.args.made.now c.write_results.new.destination
    (three_operands u u (λ a b d. wrap t.width (widen_multiply_add_formula o.op.op u.width a b d))
    c.group.result.now c.second_in_place.result.now file o.vs2
    c.args.body.now.end (second_element u false o.source file x)
    (λ i. element (width_bytes t.width) c.group-2.result.now i) (group_element t file o.op.vd) c.group.ensures.value
    (λ i h. c.second_in_place.ensures.elements i (omega (arith, h, c.end.ensures.value))
    ∙ ap (λ (s : SecondOperand). second_element (record { width = u.width; emul = s.emul }) s.unsigned s.source file x i) c.signed_operand-operand.ensures)
    (λ i. ap (λ bytes. element (width_bytes t.width) bytes i) c.group-2.ensures.value))
    c.write_results.ensures

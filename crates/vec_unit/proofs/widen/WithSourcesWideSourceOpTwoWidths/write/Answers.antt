use Rattle.std.proofs.Common.{arith, false, ◌∙◌, ap}
use Rattle.rv_model.specs.elements.Arithmetic.{second_element, wide_source_result}
use Rattle.rv_model.specs.vector.Groups.{GroupType, width_bytes}
use Rattle.rv_model.specs.elements.Formulas.{ones, wide_source_formula, wrap}
use Rattle.vec_unit.proofs.CopiedOperands.{two_operands}
use Rattle.vec_unit.proofs.MadeResults.{active_written}
use Rattle.vec_unit.specs.declared.operands.SecondOperand.{SecondOperand}
use Rattle.vec_unit.proofs.widen.WithSourcesWideSourceOpTwoWidths.write.Goals as goal

pub returns-clause-writes : goal.returns-clause-writes
returns-clause-writes g c =
    let t : GroupType = record { width = g.D.Lane.width; emul = c.args.groups.emul } in
    let u : GroupType = record { width = g.O.Lane.width; emul = c.args.groups.other } in
    let o = c.args.self.now in
    let file = c.args.file.now in
    let x = c.args.scalar.now in
    active_written (width_bytes t.width) c.args.body.now _ (wide_source_result u t o.op o.vs2 o.source file x) (ones t.width) c.args.made.now c.write_results.new.destination
    (two_operands t u (λ a b. wrap t.width (wide_source_formula o.op t.width u.width a b))
    c.group.result.now c.second_in_place.result.now file o.vs2
    c.args.body.now.end (second_element u false o.source file x) c.group.ensures.value
    (λ i h. c.second_in_place.ensures.elements i (omega (arith, h, c.end.ensures.value))
    ∙ ap (λ (s : SecondOperand). second_element (record { width = u.width; emul = s.emul }) s.unsigned s.source file x i) c.signed_operand-operand.ensures))
    c.write_results.ensures

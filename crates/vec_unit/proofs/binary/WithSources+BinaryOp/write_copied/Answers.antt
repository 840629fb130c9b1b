use Rattle.std.proofs.Common.{◌∙◌, ap, arith}
use Rattle.rv_model.specs.elements.Arithmetic.{binary_result, second_element}
use Rattle.rv_model.specs.vector.Groups.{GroupType}
use Rattle.rv_model.specs.elements.Formulas.{formula, has_unsigned_immediate, wrap}
use Rattle.rv_model.proofs.element_lemmas.Arithmetic.{results_same}
use Rattle.vec_unit.proofs.CopiedOperands.{two_operands}
use Rattle.vec_unit.proofs.binary.WithSources+BinaryOp.write_copied.Goals as goal

pub returns : goal.returns
returns g c =
    let t : GroupType = record { width = g.L.Lane.width; emul = c.args.destination.emul } in
    let o = c.args.self in
    let file = c.args.file.now in
    let x = c.args.scalar.now in
    c.write_group.ensures
    ∙ results_same t c.args.destination.vd c.args.body.now
    c.args.destination.fill_masked_off c.args.destination.fill_tail
    _ (binary_result t o.op o.vs2 o.source file x) file
    (two_operands t t (λ a b. wrap t.width (formula o.op t.width a b))
    c.group_copy-a.result.now c.second_copy-b.result.now file o.vs2
    c.args.body.now.end (second_element t (has_unsigned_immediate o.op) o.source file x) c.group_copy-a.ensures.value
    (λ i h. c.second_copy-b.ensures.elements i (omega (arith, h, c.end-end.ensures.value))
    ∙ ap (λ u. second_element t u o.source file x i) c.has_unsigned_immediate-unsigned.ensures))

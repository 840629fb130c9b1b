use Rattle.std.proofs.Common.{◌≡◌, ap, get_or, false, sym, ◌∙◌}
use Rattle.rv_model.specs.declared.instructions.operations.WidenOp.{WidenOp}
use Rattle.rv_model.specs.declared.instructions.operations.WidenOp.TheVariants.{Vwaddu}
use Rattle.rv_model.specs.elements.Arithmetic.{second_element, widen_result}
use Rattle.rv_model.specs.elements.Elements.{Body}
use Rattle.rv_model.specs.vector.Groups.{GroupType, width_bytes}
use Rattle.rv_model.specs.elements.Formulas.{ones, widen_formula, wrap}
use Rattle.vec_unit.proofs.CopiedOperands.{known_second}
use Rattle.vec_unit.proofs.MadeResults.{active_written}
use Rattle.vec_unit.specs.declared.widen.TheConstants.{OPERATIONS}
use Rattle.vec_unit.specs.declared.operands.SecondOperand.{SecondOperand}
use Rattle.vec_unit.proofs.widen.write_one.Goals as goal

pub returns : goal.returns
returns g c =
    let t : GroupType = record { width = g.D.Lane.width; emul = c.args.groups.emul } in
    let u : GroupType = record { width = g.O.Lane.width; emul = c.args.groups.other } in
    let op : WidenOp = get_or OPERATIONS g.row.NUMBER Vwaddu in
    let o = c.args.sources.now in
    let body : Body = c.copied-body.result in
    let file = c.args.file.now in
    let x = c.args.scalar.now in
    let end : body.end ≡ c.args.body.now.end = ap (λ (b : Body). b.end) c.copied-body.ensures in
    rw (sym c.copied-body.ensures) (active_written (width_bytes t.width) body _ (widen_result u t op o.vs2 o.source file x) (ones t.width) c.args.made.now c.write_results.new.destination
    (λ i h. known_second u (λ a b. wrap t.width (widen_formula op u.width a b)) c.group.result.now file o.vs2 i _
    (second_element u false o.source file x i) c.group.ensures.value
    (c.second_elements.ensures.numbers u.width i
    ∙ ap (λ (s : SecondOperand). second_element (record { width = u.width; emul = s.emul }) s.unsigned s.source file x i) c.signed_operand-operand.ensures))
    c.write_results.ensures)

use Rattle.std.proofs.Common.{false, ◌∙◌, ap}
use Rattle.rv_model.specs.elements.Arithmetic.{compare_result, second_element}
use Rattle.rv_model.specs.elements.Elements.{Body, is_active}
use Rattle.rv_model.specs.elements.Formulas.{compare_formula}
use Rattle.rv_model.specs.vector.Groups.{GroupType}
use Rattle.rv_model.proofs.element_lemmas.Bits.{same_bits}
use Rattle.vec_unit.proofs.CopiedOperands.{known_second}
use Rattle.vec_unit.specs.declared.operands.SecondOperand.{SecondOperand}
use Rattle.vec_unit.proofs.compare.WithSourcesCompareOpOperation.write.Goals as goal

pub returns : goal.returns
returns g c =
    let t : GroupType = record { width = g.L.Lane.width; emul = c.args.to.emul } in
    let o = c.args.self.now in
    let file = c.args.file.now in
    let x = c.args.scalar.now in
    let body : Body = c.args.body.now in
    c.set_mask.ensures body (compare_result t o.op o.vs2 o.source file x)
    (rw (← c.register_copy-bits.ensures) (
    same_bits (is_active body) _ (compare_result t o.op o.vs2 o.source file x) c.register_copy-bits.result c.write_mask_results.new.destination
    (λ i active.
    known_second t (compare_formula o.op t.width) c.group-a.result.now file o.vs2 i _ (second_element t false o.source file x i)
    c.group-a.ensures.value
    (c.second_elements-b.ensures.numbers t.width i
    ∙ ap (λ (s : SecondOperand). second_element (record { width = t.width; emul = s.emul }) s.unsigned s.source file x i) c.signed_operand.ensures))
    c.write_mask_results.ensures))

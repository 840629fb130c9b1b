use Rattle.std.proofs.Common.{ℕ, ◌<◌, ◌≡◌, ◌∙◌, arith, false, ap}
use Rattle.rv_model.specs.elements.Arithmetic.{second_element}
use Rattle.rv_model.specs.vector.Groups.{GroupType, width_bytes}
use Rattle.rv_model.specs.elements.Elements.{element}
use Rattle.rv_model.proofs.element_lemmas.Arithmetic.{results_same}
use Rattle.vec_unit.specs.declared.operands.SecondOperand.{SecondOperand}
use Rattle.vec_unit.proofs.moves.MoveOperation.write.Goals as goal

pub returns : goal.returns
returns g c =
    let t : GroupType = record { width = g.L.Lane.width; emul = c.args.to.emul } in
    let k : ℕ = width_bytes g.L.Lane.width in
    let o = c.args.self.now in
    let to = c.args.to in
    let file = c.args.file.now in
    let x = c.args.scalar.now in
    let second : (i : ℕ) → i < c.args.body.now.end → element k c.second_copy-b.result.now i ≡ second_element t false o.source file x i =
    λ i h. c.second_copy-b.ensures.elements i (omega (arith, h, c.end.ensures.value))
    ∙ ap (λ (s : SecondOperand). second_element (record { width = t.width; emul = s.emul }) s.unsigned s.source file x i) c.signed_operand-operand.ensures in
    c.write_group.ensures
    ∙ results_same t to.vd c.args.body.now to.fill_masked_off to.fill_tail
    (λ i. element k c.second_copy-b.result.now i) (second_element t false o.source file x) file second

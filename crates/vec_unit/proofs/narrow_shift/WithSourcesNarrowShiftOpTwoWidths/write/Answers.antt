use Rattle.std.proofs.Common.{true}
use Rattle.rv_model.specs.elements.Arithmetic.{narrow_shift_result, second_element}
use Rattle.rv_model.specs.vector.Groups.{GroupType, width_bytes}
use Rattle.rv_model.specs.elements.Formulas.{ones, narrow_shift_formula, wrap}
use Rattle.vec_unit.proofs.CopiedOperands.{known_second}
use Rattle.vec_unit.proofs.MadeResults.{active_written}
use Rattle.vec_unit.proofs.narrow_shift.WithSourcesNarrowShiftOpTwoWidths.write.Goals as goal

pub returns-clause-writes : goal.returns-clause-writes
returns-clause-writes g c =
    let t : GroupType = record { width = g.D.Lane.width; emul = c.args.groups.emul } in
    let u : GroupType = record { width = g.O.Lane.width; emul = c.args.groups.other } in
    let o = c.args.self.now in
    let file = c.args.file.now in
    let x = c.args.scalar.now in
    active_written (width_bytes t.width) c.args.body.now _ (narrow_shift_result t u o.op o.vs2 o.source file x) (ones t.width) c.args.made.now c.write_results.new.destination
    (λ i h. known_second u (λ a b. wrap t.width (narrow_shift_formula o.op u.width a b)) c.group.result.now file o.vs2 i _
    (second_element t true o.source file x i) c.group.ensures.value (c.second_elements.ensures.numbers t.width i))
    c.write_results.ensures

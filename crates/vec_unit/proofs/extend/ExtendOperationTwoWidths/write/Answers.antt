use Rattle.std.proofs.Common.{ℕ, ◌≡◌, ap}
use Rattle.rv_model.specs.elements.Arithmetic.{extend_result, group_element}
use Rattle.rv_model.specs.vector.Groups.{GroupType, width_bytes}
use Rattle.rv_model.specs.elements.Elements.{element}
use Rattle.rv_model.specs.elements.Formulas.{ones, extend_formula, wrap}
use Rattle.vec_unit.proofs.MadeResults.{active_written}
use Rattle.vec_unit.proofs.extend.ExtendOperationTwoWidths.write.Goals as goal

pub returns-clause-writes : goal.returns-clause-writes
returns-clause-writes g c =
    let t : GroupType = record { width = g.D.Lane.width; emul = c.args.groups.emul } in
    let u : GroupType = record { width = g.O.Lane.width; emul = c.args.groups.other } in
    let o = c.args.self.now in
    let file = c.args.file.now in
    let first : (i : ℕ) → element (width_bytes u.width) c.group.result.now i ≡ group_element u file o.vs2 i =
    λ i. ap (λ bytes. element (width_bytes u.width) bytes i) c.group.ensures.value in
    let known : ℕ → ℕ = λ a. wrap t.width (extend_formula o.op u.width a) in
    active_written (width_bytes t.width) c.args.body.now (λ i. known (element (width_bytes u.width) c.group.result.now i))
    (extend_result u t o.op o.vs2 file) (ones t.width) c.args.made.now c.write_results.new.destination (λ i h. ap known (first i))
    c.write_results.ensures

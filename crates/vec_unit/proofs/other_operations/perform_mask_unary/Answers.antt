use Rattle.std.proofs.Common.{ℕ, ◌%◌, ◌^◌, ap, refl, slice_index}
use mir.Val.{bits}
use Rattle.rv_model.specs.elements.Arithmetic.{body_of, fills_masked_off, fills_tail, iota_result}
use Rattle.rv_model.specs.vector.Groups.{GroupType, group_type}
use Rattle.rv_model.specs.elements.Elements.{Body}
use Rattle.rv_model.proofs.element_lemmas.Arithmetic.{results_same}
use Rattle.vec_unit.proofs.other_operations.perform_mask_unary.Goals as goal

pub returns-in-Viota : goal.returns-in-Viota
returns-in-Viota c =
    let target = c.args.target in
    let state = c.args.state.now in
    let t : GroupType = group_type target.vtype in
    let body : Body = body_of target.unmasked state in
    let known : ℕ → ℕ = λ i. slice_index c.count_mask.new.counts i % 2 ^ bits t.width in
    let same =
    results_same t target.vd body (fills_masked_off target.policy target.vtype body)
    (fills_tail target.policy target.vtype body) known (iota_result t body c.args.vs2 state.file) state.file
    (λ i h. ap (λ n. n % 2 ^ bits t.width) (c.count_mask.ensures i h)) in
    record { model = λ memory output. rw (c.in-Viota.is, c.perform.ensures, same) refl }

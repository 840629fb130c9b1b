use Rattle.std.proofs.Common.{◌∙◌, ◌≡◌, ◌||◌, ℕ, Bool, List, ap}
use Rattle.rv_model.specs.elements.Arithmetic.{body_of, fills_masked_off, fills_tail, with_results}
use Rattle.rv_model.specs.elements.Elements.{Body}
use Rattle.rv_model.specs.vector.Groups.{GroupType}
use Rattle.vec_unit.proofs.MadeResults.{made_results}
use Rattle.vec_unit.specs.declared.destination.Agnostic.{Agnostic}
use Rattle.vec_unit.proofs.two_widths.perform_at.Goals.{then-state, else-state}
use Rattle.vec_unit.proofs.two_widths.perform_at.Goals as goal

pub returns : goal.returns
returns g c =
    let t : GroupType = record { width = g.D.Lane.width; emul = c.args.groups.emul } in
    let u : GroupType = record { width = g.O.Lane.width; emul = c.args.groups.other } in
    let state = c.args.state.now in
    let target = c.args.target in
    let number : ℕ → ℕ = g.T.TwoWidths.number c.args.operation.now t u state.file c.args.scalar.now in
    let saturates : Body → Bool = g.T.TwoWidths.saturates c.args.operation.now t u state.file c.args.scalar.now in
    let flag = c.write-saturated.ensures.saturated ∙ ap saturates c.body_under-body.ensures in
    let file = c.put_group.ensures
    ∙ made_results t target.vd c.body_under-body.result c.agnostic_under-agnostic.result.fill_masked_off
    c.agnostic_under-agnostic.result.fill_tail number state.file c.fill_agnostic.new.group c.write-saturated.new.made
    (rw (← c.group_copy_mut-made.ensures.value) c.fill_agnostic.ensures) c.write-saturated.ensures.writes
    ∙ ap (λ (a : Agnostic). with_results t target.vd c.body_under-body.result a.fill_masked_off a.fill_tail number state.file)
    c.agnostic_under-agnostic.ensures
    ∙ ap (λ (b : Body). with_results t target.vd b (fills_masked_off target.policy target.vtype b)
    (fills_tail target.policy target.vtype b) number state.file) c.body_under-body.ensures in
    let either : c.if-state.state ≡ (state.vxsat || c.write-saturated.result) = elim c.if-state.branch [
      | then-state w ↦ rw w.if-state.true (w.state-is ∙ w.if-state.true)
      | else-state w ↦ rw w.if-state.false w.state-is
    ] in
    ap (λ (file : List ℕ). record state { file = file; vxsat = c.if-state.state }) file
    ∙ ap (λ (some : Bool). record state {
      file = with_results t target.vd (body_of target.unmasked state) (fills_masked_off target.policy target.vtype (body_of target.unmasked state))
          (fills_tail target.policy target.vtype (body_of target.unmasked state)) number state.file;
      vxsat = some;
    }) (either ∙ ap (λ s. state.vxsat || s) flag)

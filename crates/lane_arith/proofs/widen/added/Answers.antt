use Rattle.std.proofs.Common.{ℕ, ◌+◌, ◌%◌, ◌^◌, ◌∙◌, ap}
use mir.Val.{bits}
use Rattle.rv_model.proofs.element_lemmas.Numbers.{wrap-add}
use Rattle.lane_arith.proofs.widen.added.Goals as goal

pub returns : goal.returns
returns g c = λ z h.
    let w = g.W.Lane.width in
    let d : ℕ = g.W.Lane.value c.args.d in
    c.sum.ensures ∙ ap (λ x. (x + d) % 2 ^ bits w) h ∙ wrap-add w z d

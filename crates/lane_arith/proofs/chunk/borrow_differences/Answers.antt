use Rattle.std.proofs.Common.{ℕ, ◌+◌, ◌/◌, ◌%◌, ◌^◌, ◌==◌, not, pos, ◌-ℤ◌, ap, ◌∙◌}
use Rattle.std.specs.Int.{from_bool}
use mir.Val.{bits}
use Rattle.rv_model.specs.elements.Formulas.{wrap}
use Rattle.lane_arith.proofs.WrappedNumbers.{wrap-sub}
use Rattle.lane_arith.proofs.chunk.borrow_differences.Goals as goal

pub returns : goal.returns
returns g c = λ i h.
    let w = g.L.Lane.width in
    let a : ℕ = g.L.Lane.lane c.args.a i in
    let b : ℕ = g.L.Lane.lane c.args.b i in
    let borrow : ℕ = from_bool (not (c.args.word / 2 ^ i % 2 == 0)) in
    let sum = c.sums.ensures i h ∙ ap (λ x. (b + x) % 2 ^ bits w) (c.carries.ensures i h) in
    c.differences.ensures i h ∙ ap (λ x. wrap w (pos a -ℤ pos x)) sum ∙ wrap-sub w a (b + borrow)

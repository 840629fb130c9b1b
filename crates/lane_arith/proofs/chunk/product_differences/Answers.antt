use Rattle.std.proofs.Common.{◌*◌, ap, ◌∙◌, pos, ◌-ℤ◌}
use Rattle.rv_model.specs.elements.Formulas.{wrap}
use Rattle.lane_arith.proofs.WrappedNumbers.{wrap-sub}
use Rattle.lane_arith.proofs.chunk.product_differences.Goals as goal

pub returns : goal.returns
returns g c = λ i h.
    let w = g.L.Lane.width in
    let d = g.L.Lane.lane c.args.d i in
    c.differences.ensures i h ∙ ap (λ x. wrap w (pos d -ℤ pos x)) (c.products.ensures i h) ∙ wrap-sub w d (g.L.Lane.lane c.args.a i * g.L.Lane.lane c.args.b i)

use Rattle.std.proofs.Common.{◌*◌, ◌^◌, ap, ◌∙◌, ◌+◌, ◌%◌}
use mir.Val.{bits}
use Rattle.rv_model.proofs.element_lemmas.Numbers.{mod_sum}
use Rattle.lane_arith.proofs.chunk.product_sums.Goals as goal

pub returns : goal.returns
returns g c = λ i h.
    let p = 2 ^ bits g.L.Lane.width in
    let d = g.L.Lane.lane c.args.d i in
    c.sums.ensures i h ∙ ap (λ x. (x + d) % p) (c.products.ensures i h) ∙ mod_sum (g.L.Lane.lane c.args.a i * g.L.Lane.lane c.args.b i) d p

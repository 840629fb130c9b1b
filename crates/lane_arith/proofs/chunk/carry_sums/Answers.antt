use Rattle.std.proofs.Common.{ℕ, ◌+◌, ◌/◌, ◌%◌, ◌^◌, ◌==◌, not, ap, ◌∙◌}
use Rattle.std.specs.Int.{from_bool}
use mir.Val.{bits}
use Rattle.rv_model.proofs.element_lemmas.Numbers.{mod_sum}
use Rattle.lane_arith.proofs.chunk.carry_sums.Goals as goal

pub returns : goal.returns
returns g c = λ i h.
    let p : ℕ = 2 ^ bits g.L.Lane.width in
    let carry : ℕ = from_bool (not (c.args.word / 2 ^ i % 2 == 0)) in
    let first = ap (λ x. (x + g.L.Lane.lane c.carries.result i) % p) (c.sums.ensures i h) in
    let second = ap (λ x. ((g.L.Lane.lane c.args.a i + g.L.Lane.lane c.args.b i) % p + x) % p) (c.carries.ensures i h) in
    c.sums-2.ensures i h ∙ first ∙ second ∙ mod_sum (g.L.Lane.lane c.args.a i + g.L.Lane.lane c.args.b i) carry p

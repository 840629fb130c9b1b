use Rattle.std.proofs.Common.{ℕ, ◌+◌, ◌-◌, ◌*◌, ◌/◌, ◌≤◌, ◌≡◌, get_or, ap, ◌∙◌, arith}
use Rattle.rv_model.specs.vector.Groups.{width_bytes}
use Rattle.rv_model.proofs.element_lemmas.Widths.{whole_bytes}
use Rattle.lane_permute.proofs.MovedElements.{element_around}
use Rattle.lane_permute.proofs.moved.elements_around.Goals as goal

pub returns : goal.returns
returns g c = λ i h past.
    let k : ℕ = width_bytes g.L.Lane.width in
    let from : ℕ = c.args.from in
    let size : c.bits.result / 8 ≡ k = omega (arith, c.bits.ensures, whole_bytes g.L.Lane.width) in
    c.from_bytes.ensures.value i h
    ∙ element_around k g.L.Lane.count from i c.bytes_around.result c.args.a.now g.met.L.Lane.fills h past
    (λ j l behind.
    let there : 32 ≤ c.bits.result / 8 * from + j = rw size behind in
    c.bytes_around.ensures j l there ∙ ap (λ w. get_or c.args.a.now (w * from + j - 32) 0) size)

use Rattle.std.proofs.Common.{ℕ, ◌+◌, ◌-◌, ◌*◌, cond, ap, ◌∙◌}
use Rattle.rv_model.specs.elements.Elements.{element}
use Rattle.rv_model.specs.vector.Groups.{width_bytes}
use Rattle.lane_permute.proofs.MovedElements.{is_first}
use Rattle.lane_permute.proofs.slides.SlideOneUpResults.chunk_results.Goals as goal

pub returns : goal.returns
returns g c = λ i h.
    let x : ℕ = g.L.Lane.count * c.args.chunk + i in
    let number : ℕ → ℕ = element (width_bytes g.L.Lane.width) c.args.self.now.a.now in
    c.in_ok-made.ensures i h ∙ ap (λ b. cond b (g.L.Lane.value c.args.self.now.first) (number (x - 1))) (is_first x)

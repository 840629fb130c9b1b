use Rattle.std.proofs.Common.{ℕ, ◌+◌, ◌*◌, ◌∙◌}
use Rattle.rv_model.specs.elements.Elements.{element}
use Rattle.rv_model.specs.vector.Groups.{width_bytes}
use Rattle.lane_permute.proofs.MovedElements.{first_before}
use Rattle.lane_permute.proofs.slides.SlideUpResults.chunk_results.Goals as goal

pub returns : goal.returns
returns g c = λ i h.
    let a = c.args.self.now.a.now in
    let number : ℕ → ℕ = element (width_bytes g.L.Lane.width) a in
    c.in_ok-made.ensures i h ∙ first_before number (g.L.Lane.count * c.args.chunk + i) c.args.self.now.offset _ c.load.ensures

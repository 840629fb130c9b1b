use Rattle.std.proofs.Common.{ℕ, ◌+◌, ◌*◌, ◌-◌, ◌≡◌, ap, ◌∙◌, arith}
use Rattle.rv_model.specs.elements.Elements.{element}
use Rattle.rv_model.specs.vector.Groups.{width_bytes}
use Rattle.lane_permute.proofs.MovedElements.{last_lane}
use Rattle.lane_permute.proofs.slides.SlideOneDownResults.chunk_results.Goals as goal

pub returns : goal.returns
returns g c = λ i h.
    let number : ℕ → ℕ = element (width_bytes g.L.Lane.width) c.args.self.now.a.now in
    let n : ℕ = g.L.Lane.count in
    let first : ℕ = n * c.args.chunk in
    let moved = rw (c.count.ensures, c.count-count.ensures) at c.in_ok-moved.ensures in
    let place : first + n + 1 + i - n ≡ first + i + 1 = omega arith in
    let there = moved i h (omega arith) ∙ ap number place in
    let low : c.saturating_sub.result ≡ c.args.self.now.end - (first + 1) = rw c.count.ensures at c.saturating_sub.ensures in
    let high : c.saturating_sub-2.result ≡ c.args.self.now.end - first = rw c.count.ensures at c.saturating_sub-2.ensures in
    c.first_then.ensures i h ∙ rw (c.first_then-rest.ensures i h, c.repeated.ensures i h, there)
    (last_lane c.args.self.now.end first n i c.min-before.result c.min-to.result (g.L.Lane.value c.args.self.now.last) (number (first + i + 1)) h
    (omega (arith, c.min-before.ensures, low, c.count-count.ensures)) (omega (arith, c.min-to.ensures, high, c.count-count.ensures)))

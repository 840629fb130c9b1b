use Rattle.std.proofs.Common.{ℕ, ◌+◌, ◌-◌, ◌*◌, ◌≤◌, ◌≡◌, min, ap, ◌∙◌, arith}
use Rattle.rv_model.specs.elements.Elements.{element}
use Rattle.rv_model.specs.vector.Groups.{width_bytes}
use Rattle.lane_permute.proofs.MovedElements.{moved_up_lane}
use Rattle.lane_permute.proofs.moved.moved_up.Goals as goal

pub returns : goal.returns
returns g c = λ i h.
    let n : ℕ = g.L.Lane.count in
    let first : ℕ = n * c.args.chunk in
    let start : ℕ = c.min-start.result in
    let least : start ≡ min c.args.offset (first + n) = rw (c.count.ensures, c.count-2.ensures) at c.min-start.ensures in
    let gap : c.saturating_sub.result ≡ start - first = rw c.count.ensures at c.saturating_sub.ensures in
    moved_up_lane c.args.offset first n start c.saturating_sub.result i h least gap (c.first_then.ensures i h) (c.repeated-before.ensures i h) (λ past.
    let moved = rw (c.count.ensures, c.count-2.ensures) at c.in_ok-moved.ensures in
    let behind : n ≤ first + n - start + i = omega (arith, least, past) in
    let place : first + n - start + i - n ≡ first + i - c.args.offset = omega (arith, least, past, h) in
    moved i h behind ∙ ap (element (width_bytes g.L.Lane.width) c.args.a.now) place)

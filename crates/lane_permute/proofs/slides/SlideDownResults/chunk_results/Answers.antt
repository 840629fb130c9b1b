use Rattle.std.proofs.Common.{ℕ, ◌*◌, ◌^◌, ◌-◌, ◌/◌, ◌≤◌, ◌≡◌, List, length, ◌∙◌, arith}
use Rattle.std.proofs.Math.Nat.{mul-div-le, mul-le-mul_left}
use Rattle.rv_model.specs.vector.Groups.{width_bytes}
use Rattle.rv_model.proofs.element_lemmas.Widths.{whole_bytes}
use Rattle.lane_permute.proofs.MovedElements.{moved_down_lane}
use Rattle.lane_permute.proofs.slides.SlideDownResults.chunk_results.Goals as goal

pub returns : goal.returns
returns g c = λ i h.
    let k : ℕ = width_bytes g.L.Lane.width in
    let n : ℕ = g.L.Lane.count in
    let a : List ℕ = c.args.self.now.a.now in
    let limit : ℕ = c.args.self.now.limit in
    let from : ℕ = c.min-from.result in
    let size : c.bits.result / 8 ≡ k = omega (arith, c.bits.ensures, whole_bytes g.L.Lane.width) in
    let few = rw size at c.if-self-width.false in
    let up : k * limit ≤ k * (length a / k) = mul-le-mul_left k (omega (arith, few)) in
    let count = c.count-count.ensures in
    let place = rw count at c.saturating_add-place.ensures in
    let made = rw (size, count) at c.in_ok-made.ensures in
    made i h (omega arith)
    ∙ moved_down_lane k limit c.args.self.now.offset (n * c.args.chunk) n i c.saturating_add-place.result from (2 ^ 64 - 1) a (omega (arith, up, mul-div-le (length a) k)) (omega arith) place c.min-from.ensures

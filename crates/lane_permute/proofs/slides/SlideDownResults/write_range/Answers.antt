use Rattle.std.proofs.Common.{ℕ, List, ◌+◌, ◌-◌, ◌^◌, ◌<◌, ◌≤◌, ◌≡◌, arith, le-ltb, lt-ltb, max, min, refl, sym, ◌∙◌}
use Rattle.std.proofs.Math.Nat.{zero-mod}
use Rattle.rv_model.specs.elements.Elements.{element}
use Rattle.rv_model.specs.elements.PermutationResults.{gathered}
use Rattle.rv_model.specs.vector.Groups.{width_bytes}
use Rattle.lane_permute.proofs.Blocks.{then_filled}
use Rattle.lane_permute.proofs.slides.SlideDownResults.write_range.Goals as goal

pub returns-clause-done : goal.returns-clause-done
returns-clause-done g c = λ done.
    let k : ℕ = width_bytes g.L.Lane.width in
    let a : List ℕ = c.args.self.now.a.now in
    let limit : ℕ = c.args.self.now.limit in
    let offset : ℕ = c.args.self.now.offset in
    let start : ℕ = c.args.start in
    let to : ℕ = c.min-to.result in
    let is : to ≡ min (max (limit - offset) start) c.args.end = omega (arith, c.min-to.ensures, c.max.ensures, c.saturating_sub.ensures) in
    let few : limit < 2 ^ 64 = omega arith in
    then_filled k start to c.args.end (g.L.Lane.value c.low_bits.result) (λ i. element k a (c.saturating_add.result + (i - start)))
    (λ i. gathered limit (element k a) (i + offset)) c.args.destination.now c.move_elements.new.destination c.fill.new.destination
    (omega (arith, is)) (λ i high inner. omega (arith, is, high, inner))
    (λ i from low.
    let near : i + offset < limit = omega (arith, is, from, low) in
    let place : c.saturating_add.result + (i - start) ≡ i + offset = omega (arith, c.saturating_add.ensures, from, near, few) in
    rw (lt-ltb (i + offset) limit near, place) refl)
    (λ i high inner.
    let far : limit ≤ i + offset = omega (arith, is, high, inner) in
    rw (le-ltb (i + offset) limit far) (sym (c.low_bits.ensures ∙ zero-mod _)))
    c.move_elements.ensures c.fill.ensures

use Rattle.std.proofs.Common.{ℕ, List, ◌+◌, ◌-◌, ◌*◌, ◌<◌, ◌≤◌, ◌≡◌, ◌==◌, true, false, arith, cond, max, min, refl, length}
use Rattle.std.proofs.Math.Nat.{mul-add, mul-one}
use Rattle.std.proofs.lemmas.Bool.Decides.{nat_tests}
use Rattle.rv_model.specs.elements.Elements.{element}
use Rattle.rv_model.specs.vector.Groups.{width_bytes}
use Rattle.lane_permute.proofs.Blocks.{then_filled}
use Rattle.lane_permute.proofs.slides.SlideOneDownResults.write_range.Goals as goal

pub move_elements-requires-clause-source : goal.move_elements-requires-clause-source
move_elements-requires-clause-source g c = λ some.
    let k : ℕ = width_bytes g.L.Lane.width in
    let start : ℕ = c.args.start in
    let to : ℕ = c.min-to.result in
    let is : to ≡ min (max (c.args.self.now.end - 1) start) c.args.end = omega (arith, c.min-to.ensures, c.max.ensures, c.saturating_sub.ensures) in
    let last : to - 1 < c.args.end = omega (arith, is, some) in
    let next : to - 1 + 1 ≡ to = omega (arith, some) in
    let has = (rw next at (c.requires.operands (to - 1) last)).1 (omega (arith, is, some)) in
    let place : c.saturating_add.result + (to - start) ≡ to + 1 = omega (arith, c.saturating_add.ensures, some) in
    rw place (omega (arith, has, mul-add k to 1, mul-one k))

pub returns-clause-done : goal.returns-clause-done
returns-clause-done g c = λ done.
    let k : ℕ = width_bytes g.L.Lane.width in
    let a : List ℕ = c.args.self.now.a.now in
    let last : ℕ = c.args.self.now.end in
    let start : ℕ = c.args.start in
    let to : ℕ = c.min-to.result in
    let v : ℕ = g.L.Lane.value c.args.self.now.last in
    let is : to ≡ min (max (last - 1) start) c.args.end = omega (arith, c.min-to.ensures, c.max.ensures, c.saturating_sub.ensures) in
    then_filled k start to c.args.end v (λ i. element k a (c.saturating_add.result + (i - start)))
    (λ i. cond (i + 1 == last) v (element k a (i + 1))) c.args.destination.now c.move_elements.new.destination c.fill.new.destination
    (omega (arith, is)) (λ i high inner. omega (arith, is, high, inner))
    (λ i from low.
    let before : i + 1 < last = omega (arith, is, from, low) in
    let other : (i + 1 == last) ≡ false = grind (arith, nat_tests, before) in
    let place : c.saturating_add.result + (i - start) ≡ i + 1 = omega (arith, c.saturating_add.ensures, from, low) in
    rw (other, place) refl)
    (λ i high inner.
    let ends : i + 1 ≡ last = omega (arith, is, high, inner, (c.requires.operands i inner).0) in
    let one : (i + 1 == last) ≡ true = grind (arith, nat_tests, ends) in
    rw one refl)
    c.move_elements.ensures c.fill.ensures

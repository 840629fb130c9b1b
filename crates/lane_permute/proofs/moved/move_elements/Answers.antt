use Rattle.std.proofs.Common.{ℕ, List, ◌+◌, ◌-◌, ◌*◌, ◌/◌, ◌<◌, ◌≡◌, ◌∙◌, ap, arith}
use Rattle.rv_model.specs.vector.Groups.{width_bytes}
use Rattle.rv_model.proofs.element_lemmas.Widths.{whole_bytes}
use Rattle.lane_permute.proofs.Blocks.{block_moved}
use lib.Lanes.{chunk}
use Rattle.lane_permute.proofs.moved.move_elements.Goals as goal

pub returns-then-start-end : goal.returns-then-start-end
returns-then-start-end g c =
    let k : ℕ = width_bytes g.L.Lane.width in
    let a : List ℕ = c.args.a.now in
    let from : ℕ = c.args.from in
    let count : ℕ = c.args.end - c.args.start in
    let some : c.args.start < c.args.end = omega (arith, c.if-start-end.true) in
    let size : c.bits.result / 8 ≡ k = omega (arith, c.bits.ensures, whole_bytes g.L.Lane.width) in
    let long : k * from + k * count - k * from ≡ k * count = omega arith in
    let copied : c.copy_from_slice.new.self ≡ chunk (k * from) (k * count) a =
    (rw size at c.copy_from_slice.ensures.after) ∙ ap (λ x. chunk (k * from) x a) long in
    rw size
    (block_moved k from c.args.start c.args.end a c.args.destination.now c.copy_from_slice.new.self (λ j. (c.type_inv.a j).fits) some
    (c.requires.source some) c.requires.room copied)

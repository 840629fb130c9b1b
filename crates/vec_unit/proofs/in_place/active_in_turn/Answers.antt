use Rattle.std.proofs.Common.{◌≡◌, ◌+◌, true, arith}
use Rattle.rv_model.specs.elements.Elements.{in_body}
use Rattle.rv_model.proofs.element_lemmas.Sets.{inside_range}
use Rattle.vec_unit.proofs.in_place.active_in_turn.Goals as goal

pub returns-then-all : goal.returns-then-all
returns-then-all c = λ i h.
    let start = (c.requires.all c.if-all.true).0 in
    let end = (c.requires.all c.if-all.true).1 in
    let inside : in_body c.args.body.now (c.args.first + i) ≡ true =
    inside_range c.args.body.now.start c.args.body.now.end (c.args.first + i) (omega (arith, start)) (omega (arith, end, h)) in
    rw inside (c.enabled_bits.ensures i h)

use Rattle.std.proofs.Common.{arith, refl}
use Rattle.rv_model.specs.elements.Formulas.{ones}
use Rattle.rv_model.specs.vector.Groups.{width_bytes, registers}
use Rattle.vec_unit.proofs.MadeResults.{agnostic_filled}
use Rattle.vec_unit.proofs.destination.fill_agnostic.Goals as goal

pub returns : goal.returns
returns g c =
    agnostic_filled (width_bytes g.L.Lane.width) g.L.Lane.count (registers c.args.emul) c.args.body.now c.args.agnostic.fill_masked_off
    c.args.agnostic.fill_tail c.end-end.result c.min.result _ c.bound-from.result c.bound-to.result (ones g.L.Lane.width) _ c.args.group.now
    c.fill.new.destination g.met.L.Lane.fills c.requires.whole (rw (c.count.ensures, c.registers.ensures.value) refl) c.end-end.ensures.value
    (omega (arith, c.min.ensures, c.start.ensures, c.end-end.ensures.value)) c.all_ones.ensures c.bound-from.ensures c.bound-to.ensures
    c.fill.ensures

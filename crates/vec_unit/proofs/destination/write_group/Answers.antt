use Rattle.std.proofs.Common.{refl}
use Rattle.rv_model.proofs.element_lemmas.Arithmetic.{results_are}
use Rattle.vec_unit.proofs.destination.write_group.Goals as goal

pub returns : goal.returns
returns g c =
    results_are (record { width = g.L.Lane.width; emul = c.args.destination.emul }) c.args.destination.vd c.args.body.now
    c.args.destination.fill_masked_off c.args.destination.fill_tail (g.R.Results.number c.args.results.now)
    (g.R.Results.number c.args.results.now) c.args.file.now c.write_filled.new.group (λ i h. refl)
    (rw (← c.group_mut-group.ensures.value) c.write_filled.ensures)

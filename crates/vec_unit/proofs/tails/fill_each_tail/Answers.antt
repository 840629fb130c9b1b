use Rattle.std.proofs.Common.{◌≡◌, ◌+◌, ◌*◌, arith, sym}
use Rattle.rv_model.specs.vector.Groups.{GroupType, registers}
use Rattle.rv_model.proofs.element_lemmas.Tails.{no_tail_filled, one_tail_more}
use Rattle.vec_unit.proofs.tails.fill_each_tail.Goals as goal

pub loop-field-init : goal.loop-field-init
loop-field-init g c =
    sym (no_tail_filled (record { width = g.L.Lane.width; emul = c.args.fields.emul }) c.args.fields.vd c.args.start c.args.file.now)

pub loop-field-preserved : goal.loop-field-preserved
loop-field-preserved g c =
    let group : GroupType = record { width = g.L.Lane.width; emul = c.args.fields.emul } in
    let next : c.new-vd.result ≡ c.args.fields.vd + c.loop-field.field * registers c.args.fields.emul =
    rw (← c.number.ensures.value, ← c.registers-size.ensures.value) c.new-vd.ensures in
    rw (one_tail_more group c.args.fields.vd c.args.start c.loop-field.field c.args.file.now, ← next, ← c.loop-field.invariant) c.fill_tail.ensures

pub returns : goal.returns
returns g c =
    let all : c.loop-field.field ≡ c.args.fields.nf + 1 =
    omega (arith, c.loop-field-test.false, c.loop-field.auto.field-end, c.value-field-end.ensures.value) in
    rw (← all) c.loop-field.invariant

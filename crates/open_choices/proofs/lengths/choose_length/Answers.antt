use Rattle.std.proofs.Common.{◌∙◌, ap, sym}
use Rattle.rv_model.specs.vector.Groups.{Configuration}
use Rattle.open_choices.proofs.OpenLengths.{length_kept, length_set, length_untyped, register_set}
use Rattle.open_choices.proofs.lengths.choose_length.Goals as goal

pub returns-in_default-clause-conf : goal.returns-in_default-clause-conf
returns-in_default-clause-conf c = length_untyped c.args.seed.now c.args.number c.args.length c.args.conf.now (sym c.vtype.ensures.value ∙ c.in_default.is)

pub returns-then-left-vl-clause-conf : goal.returns-then-left-vl-clause-conf
returns-then-left-vl-clause-conf c =
    length_set c.args.seed.now c.args.number c.args.length c.args.conf.now c.in-Some.vtype (sym c.vtype.ensures.value ∙ c.in-Some.is) c.chosen_length-left.result c.from-most.result c.from-vl.result
    c.chosen_length-left.ensures.value (c.from-most.ensures ∙ c.vlmax.ensures) (c.from-vl.ensures ∙ c.vl.ensures.value) c.new.result c.new.ensures

pub returns-then-left-vl-clause-scalar : goal.returns-then-left-vl-clause-scalar
returns-then-left-vl-clause-scalar c =
    register_set c.args.rd c.chosen_length-left.result c.args.conf.now.vl c.new.result.vl c.args.scalar.now c.write.new.self
    (λ same. c.if-left-vl.true (same ∙ sym (c.from-vl.ensures ∙ c.vl.ensures.value))) c.write.ensures (ap (λ (v : Configuration). v.vl) c.new.ensures)

pub returns-else-left-vl-clause-conf : goal.returns-else-left-vl-clause-conf
returns-else-left-vl-clause-conf c =
    length_kept c.args.seed.now c.args.number c.args.length c.args.conf.now c.in-Some.vtype (sym c.vtype.ensures.value ∙ c.in-Some.is) c.chosen_length-left.result c.from-most.result c.from-vl.result
    c.chosen_length-left.ensures.value (c.from-most.ensures ∙ c.vlmax.ensures) (c.from-vl.ensures ∙ c.vl.ensures.value) c.if-left-vl.false

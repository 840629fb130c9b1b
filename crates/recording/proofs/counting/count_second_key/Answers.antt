use Rattle.std.proofs.Common.{rules, ◌≡◌, Option, Some, OnOk, subst}
use Rattle.recording.specs.Runs.{second_key, once_more}
use Rattle.recording.specs.Sums.{HasMore, Key}
use Rattle.recording.specs.declared.key.Key.TheVariants.{Jump, Length}
use Rattle.recording.proofs.counting.count_second_key.Goals as goal

pub returns-in-Link-clause-counted : goal.returns-in-Link-clause-counted
returns-in-Link-clause-counted g c =
    let e : Some (Jump c.args.found.now.pc c.args.target) ≡ second_key c.args.class c.args.found.now.conf c.args.found.now.pc c.args.target = search rules in
    subst (λ (beside : Option Key). OnOk c.count_jump.result (HasMore (once_more beside) c.args.table.now.rows.items c.count_jump.new.self.rows.items)) e c.count_jump.ensures.counted

pub returns-in-Length-clause-counted : goal.returns-in-Length-clause-counted
returns-in-Length-clause-counted g c =
    let e : Some (Length c.vtype_number.result c.vl.result) ≡ second_key c.args.class c.args.found.now.conf c.args.found.now.pc c.args.target = search rules in
    subst (λ (beside : Option Key). OnOk c.count_length.result (HasMore (once_more beside) c.args.table.now.rows.items c.count_length.new.self.rows.items)) e c.count_length.ensures.counted

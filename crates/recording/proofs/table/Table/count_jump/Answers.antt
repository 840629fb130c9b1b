use Rattle.std.proofs.Common.{subst}
use Rattle.recording.specs.Sums.{HasMore, Key, Sums, more_of, once}
use Rattle.recording.specs.declared.key.Key.TheVariants.{Jump}
use Rattle.recording.proofs.Counted.{counted_in}
use Rattle.recording.proofs.table.Table.count_jump.Goals as goal

pub returns-clause-counted : goal.returns-clause-counted
returns-clause-counted g c =
    let key : Key = Jump c.args.pc c.args.target in
    counted_in (more_of key once) c.args.self.now.rows.items c.row_of.new.self.rows.items c.count_at.new.self.rows.items c.in_ok-index.ensures.totals
    (subst (λ (sums : Sums). HasMore (more_of key sums) c.row_of.new.self.rows.items c.count_at.new.self.rows.items) c.once.ensures
    (c.count_at.ensures key c.in_ok-index.ensures.row))

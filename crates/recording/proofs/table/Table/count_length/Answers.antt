use Rattle.std.proofs.Common.{subst}
use Rattle.recording.specs.Sums.{HasMore, Key, Sums, more_of, once}
use Rattle.recording.specs.declared.key.Key.TheVariants.{Length}
use Rattle.recording.proofs.Counted.{counted_in}
use Rattle.recording.proofs.table.Table.count_length.Goals as goal

pub returns-clause-counted : goal.returns-clause-counted
returns-clause-counted g c =
    let key : Key = Length c.args.vtype c.args.vl in
    counted_in (more_of key once) c.args.self.now.rows.items c.length_row.new.self.rows.items c.count_at.new.self.rows.items c.in_ok-index.ensures.totals
    (subst (λ (sums : Sums). HasMore (more_of key sums) c.length_row.new.self.rows.items c.count_at.new.self.rows.items) c.once.ensures
    (c.count_at.ensures key c.in_ok-index.ensures.row))

use Rattle.std.proofs.Common.{subst, sym}
use Rattle.recording.specs.Sums.{HasMore, no_more}
use Rattle.recording.proofs.TableTotals.{row_added}
use Rattle.recording.proofs.table.Table.add_row.Goals as goal

pub returns-in-Some-clause-totals : goal.returns-in-Some-clause-totals
returns-in-Some-clause-totals g c =
    subst (λ rows. HasMore no_more c.args.self.now.rows.items rows) (sym c.push_reserved.ensures.items)
    (row_added c.args.self.now.rows.items c.new_row.result c.args.key c.new_row.ensures.key c.new_row.ensures.sums)

pub returns-in_default-clause-totals : goal.returns-in_default-clause-totals
returns-in_default-clause-totals g c =
    subst (λ rows. HasMore no_more c.args.self.now.rows.items rows) (sym c.push_reserved.ensures.items)
    (row_added c.args.self.now.rows.items c.new_row.result c.args.key c.new_row.ensures.key c.new_row.ensures.sums)

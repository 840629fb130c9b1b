use Rattle.std.proofs.Common.{ap, ◌∙◌}
use Rattle.recording.specs.Sums.{IsRowOf, Key, Row}
use Rattle.recording.proofs.TableTotals.{more_counted}
use Rattle.recording.proofs.table.Table.count_at.Goals as goal

pub returns : goal.returns
returns g c =
    let row : Row = c.index_mut-row.result.now in
    λ (key : Key) (found : IsRowOf key c.args.index c.args.self.now.rows.items).
    let was = ap (λ (r : Row). r.key) c.index_mut-row.ensures.value ∙ found.of row in
    more_counted c.args.self.now.rows.items c.args.index row _ found.there c.index_mut-row.ensures.value key c.args.sums was was c.added-row.ensures

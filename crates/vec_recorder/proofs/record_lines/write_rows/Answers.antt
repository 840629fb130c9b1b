use Rattle.std.proofs.Common.{rules, ◌<◌, length}
use Rattle.devices.proofs.Moves.{moved}
use Rattle.vec_recorder.proofs.RunLaws.{line_taken}
use Rattle.vec_recorder.proofs.record_lines.write_rows.Goals as goal

pub loop-row-preserved : goal.loop-row-preserved
loop-row-preserved g c =
    let below : c.loop-row.row-index < length c.args.rows.now = search rules in
    moved g.K.Sink.took _ _ _ _
    (line_taken c.args.rows.now c.loop-row.row-index c.row-item.result _ _ _ below c.as_slice.ensures.value c.push_row.ensures (search rules) c.row-item.is)
    (g.met.K.Sink.took_more _ _ _ _ _ c.loop-row.invariant c.in_ok-write_all.ensures.ok)

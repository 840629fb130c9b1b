use Rattle.std.proofs.Common.{flat_map, take}
use Rattle.vec_recorder.specs.RecordLines.{row_line}
use Rattle.vec_recorder.proofs.record_lines.write_rows.Given as goal

-- the sink has accepted the lines of the rows before the current index
abbrev pub invariant-loop-row : goal.invariant-loop-row
invariant-loop-row g l = g.K.Sink.took l.fn.sink (flat_map row_line (take l.row-index l.rows)) l.sink

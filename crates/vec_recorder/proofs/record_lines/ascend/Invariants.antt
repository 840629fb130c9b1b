use Rattle.std.specs.List.{AllAdjacentBelow}
use Rattle.vec_recorder.specs.KeyOrder.{IsBefore}
use Rattle.vec_recorder.proofs.record_lines.ascend.Given as goal

-- each key before the current index is before the next one
abbrev pub invariant-loop-i : goal.invariant-loop-i
invariant-loop-i l = AllAdjacentBelow (λ row later. IsBefore row.key later.key) l.rows l.i

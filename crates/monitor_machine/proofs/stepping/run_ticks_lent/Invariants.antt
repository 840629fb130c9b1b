use Rattle.std.proofs.Common.{◌≡◌, false, true, nat_le, length, Option}
use Rattle.rv_model.specs.declared.step.step_end.Stop.{Stop}
use Rattle.monitor_machine.specs.Lent.{Lent, TicksTo, VectorsMove, lent}
use Rattle.monitor_machine.proofs.stepping.run_ticks_lent.Given as goal

-- the result for the remaining ticks is the result for all ticks
abbrev pub invariant-loop-left : goal.invariant-loop-left
invariant-loop-left g l = record {
  left :
      (end : Lent) (reason : Option Stop) → TicksTo l.left (lent g.M.UserBytes.memory l.context l.trace l.vectors l.memory) end reason
      → TicksTo l.quantum (lent g.M.UserBytes.memory l.fn.context l.fn.trace l.fn.vectors l.fn.memory) end reason;
  watched : l.watched ≡ false → nat_le (length l.context.breakpoints) 0 ≡ true;
  vectors : VectorsMove l.fn.vectors l.vectors;
  entered : l.context.entered ≡ l.fn.context.entered;
  policy : l.policy ≡ l.context.policy;
  memory : l.memory ≡ g.M.UserBytes.with_memory l.fn.memory (g.M.UserBytes.memory l.memory);
}

abbrev pub decreases-loop-left : goal.decreases-loop-left
decreases-loop-left g l = l.left

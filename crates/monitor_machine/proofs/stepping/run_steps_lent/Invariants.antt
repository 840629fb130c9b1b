use Rattle.std.proofs.Common.{◌≡◌, ◌-◌, Option, true}
use Rattle.rv_model.specs.declared.step.step_end.Stop.{Stop}
use Rattle.monitor_machine.specs.Lent.{Lent, StepsTo, VectorsMove, lent}
use Rattle.monitor_machine.proofs.stepping.run_steps_lent.Given as goal

-- the result for the remaining steps is the result for all steps
abbrev pub invariant-loop : goal.invariant-loop
invariant-loop g l = record {
  left :
      (end : Lent) (reason : Option Stop) → StepsTo (l.count - l.counter) l.skip_once (lent g.M.UserBytes.memory l.context l.trace l.vectors l.memory) end reason
      → StepsTo l.count true (lent g.M.UserBytes.memory l.fn.context l.fn.trace l.fn.vectors l.fn.memory) end reason;
  vectors : VectorsMove l.fn.vectors l.vectors;
  entered : l.context.entered ≡ l.fn.context.entered;
  policy : l.policy ≡ l.context.policy;
  memory : l.memory ≡ g.M.UserBytes.with_memory l.fn.memory (g.M.UserBytes.memory l.memory);
}

use Rattle.std.proofs.Common.{◌≡◌, ℕ, ◌<◌, length, get_or}
use Rattle.rv_model.specs.declared.machine.run_state.RunState.TheVariants.{Absent}
use Rattle.monitor_machine.specs.Parts.{context_run_state, new_context}
use Rattle.monitor_machine.proofs.users.run_states_of.Given as goal

abbrev pub invariant-loop-index : goal.invariant-loop-index
invariant-loop-index l = record {
  count : length l.run_states ≡ 8;
  done : (k : ℕ) → k < l.index → get_or l.run_states k Absent ≡ context_run_state (get_or l.contexts k new_context);
}

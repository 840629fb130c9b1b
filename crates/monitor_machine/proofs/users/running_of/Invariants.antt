use Rattle.std.proofs.Common.{◌≡◌, ℕ, ◌<◌, length, get_or, false}
use Rattle.monitor_machine.specs.Parts.{is_running, new_context}
use Rattle.monitor_machine.proofs.users.running_of.Given as goal

abbrev pub invariant-loop-index : goal.invariant-loop-index
invariant-loop-index l = record {
  count : length l.running ≡ 8;
  done : (k : ℕ) → k < l.index → get_or l.running k false ≡ is_running (get_or l.contexts k new_context);
}

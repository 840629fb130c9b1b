use Rattle.std.proofs.Common.{◌≡◌, [], replicate}
use Rattle.monitor_machine.proofs.users.empty_traces.Given as goal

abbrev pub invariant-loop : goal.invariant-loop
invariant-loop g l = l.traces.items ≡ replicate l.counter []

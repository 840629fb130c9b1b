use Rattle.std.proofs.Common.{◌≡◌, ◌-◌, drop, false}
use Rattle.std.specs.Prelude.{find, slice_index_or}
use Rattle.rv_model.specs.machine.Grants.{next_user, turns_after}
use Rattle.slice_sched.proofs.turns.next.Given as goal

abbrev pub invariant-loop-turns : goal.invariant-loop-turns
invariant-loop-turns l = next_user l.last l.running ≡ find (λ u. slice_index_or l.running (u - 1) false) (drop l.turns (turns_after l.last))

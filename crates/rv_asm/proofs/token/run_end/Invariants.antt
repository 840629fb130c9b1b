use Rattle.std.proofs.Common.{length, ◌-◌, ◌≡◌, ◌<◌, ◌≤◌, ℕ, true, get_or}
use Rattle.rv_model.specs.assembler.Tokens.{in_run}
use Rattle.rv_asm.proofs.token.run_end.Given as goal

abbrev pub invariant-loop-end : goal.invariant-loop-end
invariant-loop-end l = (l.at < l.end) × (l.end ≤ length l.text) × ((k : ℕ) → l.at < k → k < l.end → in_run (get_or l.text k 0) ≡ true)

abbrev pub decreases-loop-end : goal.decreases-loop-end
decreases-loop-end l = length l.text - l.end

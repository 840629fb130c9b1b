use Rattle.std.proofs.Common.{length, ◌-◌, ◌≡◌, ◌≤◌}
use Rattle.rv_asm.specs.Places.{rest}
use Rattle.rv_asm.proofs.token.after_spaces.Given as goal

abbrev pub invariant-loop-start : goal.invariant-loop-start
invariant-loop-start l = (l.start ≤ length l.text) × (rest l.text l.start ≡ rest l.text l.at)

abbrev pub decreases-loop-start : goal.decreases-loop-start
decreases-loop-start l = length l.text - l.start

use Rattle.std.proofs.Common.{◌≡◌, ℕ, cond, length}
use Rattle.std.specs.Prelude.{nat_lt}
use Rattle.user_mem.specs.Frames.{times_free}
use Rattle.user_mem.proofs.free.all_free.Given as goal

abbrev pub invariant-loop-frame : goal.invariant-loop-frame
invariant-loop-frame l = record {
  once : (f : ℕ) → times_free f l.free.items ≡ cond (nat_lt f l.frame) 1 0;
  len : length l.free.items ≡ l.frame;
}

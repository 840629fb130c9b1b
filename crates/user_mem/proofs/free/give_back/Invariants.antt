use Rattle.std.proofs.Common.{◌≡◌, ℕ, ◌+◌, take, length}
use Rattle.user_mem.specs.Frames.{times_free, times_used}
use Rattle.user_mem.proofs.free.give_back.Given as goal

abbrev pub invariant-loop-i : goal.invariant-loop-i
invariant-loop-i l = record {
  owners : (f : ℕ) → times_free f l.free.items ≡ times_free f l.fn.free.items + times_used f (take l.i l.table.items);
  len : length l.free.items ≡ length l.fn.free.items + l.i;
}

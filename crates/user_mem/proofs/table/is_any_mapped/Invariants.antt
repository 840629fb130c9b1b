use Rattle.std.proofs.Common.{◌≡◌, ℕ, ◌<◌, ◌+◌, None}
use Rattle.user_mem.specs.Table.{entry_at}
use Rattle.user_mem.proofs.table.is_any_mapped.Given as goal

abbrev pub invariant-loop-i : goal.invariant-loop-i
invariant-loop-i l = (k : ℕ) → k < l.i → entry_at l.entries (l.page + k) ≡ None

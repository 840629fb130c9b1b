use Rattle.std.proofs.Common.{◌≡◌, ℕ, ◌<◌, ◌≤◌, ◌+◌, ◌-◌, List, true}
use Rattle.rv_model.specs.memory.Memory.{can_access_byte}
use Rattle.user_mem.specs.Table.{memory_of}
use Rattle.user_mem.proofs.table.is_access_allowed.Given as goal

abbrev pub invariant-loop-done : goal.invariant-loop-done
invariant-loop-done l = record {
  within : l.done ≤ l.len;
  allowed : (frames : List ℕ) (j : ℕ) → j < l.done → can_access_byte l.access (memory_of frames l.entries) (l.addr + j) ≡ true;
}

abbrev pub decreases-loop-done : goal.decreases-loop-done
decreases-loop-done l = l.len - l.done

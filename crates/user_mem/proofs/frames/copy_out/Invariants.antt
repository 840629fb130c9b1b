use Rattle.std.proofs.Common.{◌≡◌, ℕ, ◌<◌, ◌≤◌, ◌+◌, ◌-◌, get_or, length}
use Rattle.rv_model.specs.memory.Memory.{memory_byte}
use Rattle.user_mem.specs.Table.{memory_of}
use Rattle.user_mem.proofs.frames.copy_out.Given as goal

abbrev pub invariant-loop-done : goal.invariant-loop-done
invariant-loop-done l = record {
  within : l.done ≤ length l.buffer;
  size : length l.buffer ≡ length l.fn.buffer;
  copied : (j : ℕ) → j < l.done → get_or l.buffer j 0 ≡ memory_byte (memory_of l.frames l.entries) (l.addr + j);
}

abbrev pub decreases-loop-done : goal.decreases-loop-done
decreases-loop-done l = length l.fn.buffer - l.done

use Rattle.std.proofs.Common.{◌≡◌, ◌≤◌, ◌-◌, List, take, length}
use Rattle.rv_model.specs.memory.Memory.{put_bytes}
use Rattle.user_mem.specs.declared.entry.Entry.{Entry}
use Rattle.user_mem.specs.Table.{memory_of, AreApart}
use Rattle.user_mem.proofs.frames.copy_in.Given as goal

abbrev pub invariant-loop-done : goal.invariant-loop-done
invariant-loop-done l = record {
  within : l.done ≤ length l.bytes;
  size : length l.frames ≡ length l.fn.frames;
  written : memory_of l.frames l.entries ≡ put_bytes (memory_of l.fn.frames l.entries) l.addr (take l.done l.bytes);
  others : (other : List Entry) → AreApart l.entries other → memory_of l.frames other ≡ memory_of l.fn.frames other;
}

abbrev pub decreases-loop-done : goal.decreases-loop-done
decreases-loop-done l = length l.bytes - l.done

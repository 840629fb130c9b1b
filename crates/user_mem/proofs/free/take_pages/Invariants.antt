use Rattle.std.proofs.Common.{◌≡◌, ℕ, ◌<◌, ◌≤◌, ◌+◌, List, None, length}
use Rattle.rv_model.specs.memory.Memory.{with_pages}
use Rattle.user_mem.specs.declared.entry.Entry.{Entry}
use Rattle.user_mem.specs.Table.{entry_at, memory_of, IsSorted, AreBelow}
use Rattle.user_mem.specs.Frames.{times_free, times_used, ShareNoFrame}
use Rattle.user_mem.proofs.free.take_pages.Given as goal

abbrev pub invariant-loop-i : goal.invariant-loop-i
invariant-loop-i l = record {
  mapped : memory_of l.frames l.table.items ≡ with_pages (memory_of l.fn.frames l.fn.table.items) l.page l.i l.permissions;
  others : (other : List Entry) → ShareNoFrame l.fn.free.items (length l.fn.frames) other → memory_of l.frames other ≡ memory_of l.fn.frames other;
  sorted : IsSorted l.table.items;
  below : AreBelow l.table.items;
  owners : (f : ℕ) → times_free f l.free.items + times_used f l.table.items ≡ times_free f l.fn.free.items + times_used f l.fn.table.items;
  fewer : (f : ℕ) → times_free f l.free.items ≤ times_free f l.fn.free.items;
  new_pages : (k : ℕ) → l.i ≤ k → k < l.count → entry_at l.table.items (l.page + k) ≡ None;
  len : length l.table.items ≡ length l.fn.table.items + l.i;
  left : length l.free.items + l.i ≡ length l.fn.free.items;
  size : length l.frames ≡ length l.fn.frames;
}

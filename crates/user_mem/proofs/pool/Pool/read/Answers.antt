use Rattle.std.proofs.Common.{map}
use Rattle.user_mem.proofs.PoolLaws.{table_fits}
use Rattle.user_mem.proofs.pool.Pool.read.Goals as goal

pub read_pages-requires : goal.read_pages-requires
read_pages-requires g c = rw (c.as_slice-frames.ensures.value, c.user_entries-entries.ensures) (record {
  sorted = c.self.invariant.0.sorted c.index-user.result;
  below = c.self.invariant.0.below c.index-user.result;
  fit = table_fits (map (λ t. t.items) c.self.inside.tables) c.self.inside.free.items c.self.inside.frames.items c.index-user.result c.self.invariant.0 c.index-user.ensures.small;
})

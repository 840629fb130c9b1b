use Rattle.std.proofs.Common.{map}
use Rattle.user_mem.proofs.PoolLaws.{table_fits}
use Rattle.user_mem.proofs.pool.Pool.lend.Goals as goal

pub lend-requires : goal.lend-requires
lend-requires g c = rw (c.as_slice-frames.ensures.value, c.user_entries-entries.ensures) (record {
  translated = c.self.invariant.1 c.index-user.result _ c.index-user.ensures.small;
  fit = table_fits (map (λ t. t.items) c.self.inside.tables) c.self.inside.free.items c.self.inside.frames.items c.index-user.result c.self.invariant.0 c.index-user.ensures.small;
})

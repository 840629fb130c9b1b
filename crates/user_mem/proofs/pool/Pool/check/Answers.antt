use Rattle.user_mem.proofs.pool.Pool.check.Goals as goal

pub is_allowed-requires : goal.is_allowed-requires
is_allowed-requires g c = rw c.user_entries-entries.ensures (record {
  sorted = c.self.invariant.0.sorted c.index-user.result;
  below = c.self.invariant.0.below c.index-user.result;
  translated = c.self.invariant.1 c.index-user.result _ c.index-user.ensures.small;
})

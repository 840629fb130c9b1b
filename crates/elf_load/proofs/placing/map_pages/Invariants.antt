use Rattle.std.proofs.Common.{◌-◌, ◌≡◌, ◌≤◌}
use Rattle.user_mem.specs.Users.{with_memory}
use Rattle.elf_load.specs.Placing.{blank_memory}
use Rattle.elf_load.proofs.placing.map_pages.Given as goal
use Rattle.rv_model.specs.memory.Sizes.{page_limit}

abbrev pub invariant-loop-page : goal.invariant-loop-page
invariant-loop-page g l = record {
  pool : l.pool ≡ with_memory l.fn.pool l.user (blank_memory l.image l.from);
  low : l.from ≤ page_limit;
}

abbrev pub decreases-loop-page : goal.decreases-loop-page
decreases-loop-page g l = page_limit - l.from

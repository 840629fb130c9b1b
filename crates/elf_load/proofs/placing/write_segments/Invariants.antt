use Rattle.std.proofs.Common.{◌≡◌}
use Rattle.user_mem.specs.Users.{with_memory}
use Rattle.elf_load.specs.Placing.{memory_after}
use Rattle.elf_load.proofs.placing.write_segments.Given as goal

abbrev pub invariant-loop-number : goal.invariant-loop-number
invariant-loop-number g l = l.pool ≡ with_memory l.fn.pool l.user (memory_after l.image l.number)

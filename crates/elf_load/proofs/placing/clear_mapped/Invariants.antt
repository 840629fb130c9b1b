use Rattle.std.proofs.Common.{◌-◌, ◌≡◌, ◌≤◌, replicate}
use Rattle.rv_model.specs.memory.Memory.{put_bytes}
use Rattle.user_mem.specs.Users.{memory_of_user, with_memory}
use Rattle.elf_load.proofs.placing.clear_mapped.Given as goal

abbrev pub invariant-loop-done : goal.invariant-loop-done
invariant-loop-done g l = record {
  pool : l.pool ≡ with_memory l.fn.pool l.user (put_bytes (memory_of_user l.fn.pool l.user) l.addr (replicate l.done 0));
  some : l.done ≤ l.count;
}

abbrev pub decreases-loop-done : goal.decreases-loop-done
decreases-loop-done g l = l.count - l.done

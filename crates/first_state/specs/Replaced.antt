-- Laws of the memory of the only user of a pool.
use Rattle.std.specs.Prelude.{◌≡◌, List, length}
use Rattle.std.proofs.Common.{arith}
use Rattle.rv_model.specs.machine.Setup.{user_count}
use Rattle.rv_model.specs.memory.Memory.{Memory}
use Rattle.user_mem.specs.Users.{memory_of_user, with_memory}
use Rattle.user_mem.proofs.UserLaws.{memory_there}
pub use Rattle.user_mem.proofs.UserLaws.{later_memory, same_memory}

-- after a memory replaces that of user 1, it is the memory of user 1
pub own_memory_there : (memories : List Memory) (memory : Memory) → length memories ≡ user_count → memory_of_user (with_memory memories 1 memory) 1 ≡ memory
own_memory_there memories memory all = memory_there memories 1 memory (omega (arith, all))

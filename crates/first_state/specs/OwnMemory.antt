-- The memory of the only user of a machine.
use Rattle.rv_model.specs.memory.Memory.{Memory}
use Rattle.user_mem.specs.Users.{memory_of_user, with_memory}
use Rattle.first_state.specs.declared.own_bytes.OwnBytes.{OwnBytes}

-- the memory of the pool's first user
abbrev pub own_memory : {A : Type 0} → OwnBytes A → Memory
own_memory bytes = memory_of_user bytes.pool 1

-- the same bytes with another memory
abbrev pub with_own_memory : {A : Type 0} → OwnBytes A → Memory → OwnBytes A
with_own_memory bytes memory = record bytes { pool = with_memory bytes.pool 1 memory }

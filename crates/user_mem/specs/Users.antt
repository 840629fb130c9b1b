-- The memories of all users as a list, user 1 first
use Rattle.std.specs.Prelude.{◌≡◌, ◌≢◌, ℕ, ◌-◌, ◌≤◌, List, length, replicate, slice_index_or, slice_set}
use Rattle.std.specs.FinMap.{empty}
use Rattle.rv_model.specs.memory.Memory.{Memory}
use Rattle.rv_model.specs.machine.Setup.{user_count}

-- a memory without pages for each user
abbrev pub no_memories : List Memory
no_memories = replicate user_count empty

-- the memory of a user
abbrev pub memory_of_user : List Memory → ℕ → Memory
memory_of_user memories user = slice_index_or memories (user - 1) empty

-- the memories after replacing one user's memory; all others are unchanged
abbrev pub with_memory : List Memory → ℕ → Memory → List Memory
with_memory memories user memory = slice_set memories (user - 1) memory

-- after replacing a user's memory, the user's memory is the new one
abbrev pub ReplacesOwn : Type 0
ReplacesOwn = (memories : List Memory) (user : ℕ) (memory : Memory) → 1 ≤ user → user ≤ length memories
    → memory_of_user (with_memory memories user memory) user ≡ memory

-- the memories of all other users are unchanged
abbrev pub KeepsOthers : Type 0
KeepsOthers = (memories : List Memory) (user other : ℕ) (memory : Memory) → 1 ≤ user → 1 ≤ other → other ≢ user
    → memory_of_user (with_memory memories user memory) other ≡ memory_of_user memories other

-- Replacing one user's memory in the memories of all users
use Rattle.std.proofs.Common.{◌≡◌, ℕ, ◌-◌, ◌<◌, List, length, arith, get_or-set_same}
use Rattle.std.specs.FinMap.{empty}
use Rattle.std.proofs.lemmas.List.{set-set, set-get_or}
use Rattle.rv_model.specs.memory.Memory.{Memory}
use Rattle.user_mem.specs.Users.{ReplacesOwn, memory_of_user, with_memory}

-- replacing a user's memory with itself changes nothing
pub same_memory : (memories : List Memory) (user : ℕ) → with_memory memories user (memory_of_user memories user) ≡ memories
same_memory memories user = set-get_or memories (user - 1) empty

-- the later of two replacements prevails
pub later_memory : (memories : List Memory) (user : ℕ) (one two : Memory) → with_memory (with_memory memories user one) user two ≡ with_memory memories user two
later_memory memories user one two = set-set memories (user - 1) one two

-- after replacing a user's memory, the user's memory is the new one
pub memory_there : (memories : List Memory) (user : ℕ) (memory : Memory) → user - 1 < length memories → memory_of_user (with_memory memories user memory) user ≡ memory
memory_there memories user memory within = get_or-set_same memories (user - 1) memory empty within

pub replaces_own : ReplacesOwn
replaces_own memories user memory low high = memory_there memories user memory (omega arith)

-- Bytes that a memory lends.
use Rattle.std.specs.Prelude.{◌≡◌, ℕ, true, List, length}
use Rattle.rv_model.specs.declared.memory.Access.{Access}
use Rattle.rv_model.specs.memory.Memory.{Memory, bytes_at, can_access}

-- these bytes are those of a memory from an address on, and each may be accessed
pub record IsLent (access : Access) (m : Memory) (first : ℕ) (bytes : List ℕ) : Type 0 where
  pub allowed : can_access access m first (length bytes) ≡ true
  pub value : bytes ≡ bytes_at m first (length bytes)

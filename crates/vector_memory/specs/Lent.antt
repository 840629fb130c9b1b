-- Loads and stores of some indices ("V" Vector Extension 1.0, sections 7.5, 7.6 and 7.8).
use Rattle.std.specs.Prelude.{◌≡◌, ℕ, ◌-◌, ◌<◌, ◌≤◌, true, List}
use Rattle.rv_model.specs.accesses.Transfers.{Plan, Transfer, are_allowed, memory_stored, registers_loaded, transfers}
use Rattle.rv_model.specs.declared.memory.Access.TheVariants.{Load, Store}
use Rattle.rv_model.specs.memory.Memory.{Memory}

-- the transfers of an index are allowed, and loading them changed the registers from `old` to `new`
pub record IsIndexLoaded (m : Memory) (place : Transfer → ℕ) (ts : List Transfer) (old new : List ℕ) : Type 0 where
  pub allowed : are_allowed Load m ts ≡ true
  pub value : new ≡ registers_loaded m place old ts

-- the transfers of the indices from `from` up to but not including `to` are allowed, and loading them changed the registers from `old` to
-- `new`
pub record ArePartLoaded (m : Memory) (place : Transfer → ℕ) (each : Plan) (from to : ℕ) (old new : List ℕ) : Type 0 where
  pub allowed : (k : ℕ) → from ≤ k → k < to → are_allowed Load m (each k) ≡ true
  pub value : new ≡ registers_loaded m place old (transfers each from (to - from))

-- the transfers of the indices from `from` up to but not including `to` are allowed, and storing them changed the memory from `old` to `new`
pub record ArePartStored (place : Transfer → ℕ) (file : List ℕ) (each : Plan) (from to : ℕ) (old new : Memory) : Type 0 where
  pub allowed : (k : ℕ) → from ≤ k → k < to → are_allowed Store old (each k) ≡ true
  pub value : new ≡ memory_stored old place file (transfers each from (to - from))

-- the indices from `from` on, at most up to `stop`, are stored up to `next`
pub record AreStoredUpTo (place : Transfer → ℕ) (file : List ℕ) (each : Plan) (from stop : ℕ) (old : Memory) (next : ℕ)
    (new : Memory) : Type 0 where
  pub order : from ≤ next
  pub most : next ≤ stop
  pub stored : ArePartStored place file each from next old new

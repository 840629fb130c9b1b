-- The result of a load or store of the indices of a body, with a limit on the number of indices ("V" Vector Extension 1.0, sections 7.4 to
-- 7.9).
use Rattle.std.specs.Prelude.{◌≡◌, ◌↔◌, ℕ, ◌+◌, ◌-◌, Bool, false, true, List, Result, IsOk, IfErr, OnOk, OnErr}
use Rattle.rv_model.specs.declared.memory.Fault.{Fault}
use Rattle.rv_model.specs.declared.memory.Access.TheVariants.{Load, Store}
use Rattle.rv_model.specs.declared.step.memory_end.MemEnd.{MemEnd}
use Rattle.rv_model.specs.accesses.Transfers.{Transfer, are_allowed, bad_address, end_at, registers_loaded, stop_index, memory_stored, transfers}
use Rattle.rv_model.specs.accesses.VectorAccess.{VectorAccess, element_start, plan}
use Rattle.rv_model.specs.memory.Memory.{Memory}

-- a load that ended as `how` changed the registers from `old` to `new`
pub record IsLoaded (limit : ℕ) (fill : Bool) (a : VectorAccess) (m : Memory) (old : List ℕ) (how : MemEnd)
    (new : List ℕ) : Type 0 where
  pub end : how ≡ end_at Load m (plan a fill) (a.body.start + limit) a.body.end
      (stop_index Load m (plan a fill) a.body.start (a.body.start + limit) a.body.end)
  pub value : new ≡ registers_loaded m (element_start a) old (transfers (plan a fill) a.body.start
      (stop_index Load m (plan a fill) a.body.start (a.body.start + limit) a.body.end - a.body.start))

-- a store that ended as `how` changed the memory from `old` to `new`
pub record IsStored (limit : ℕ) (a : VectorAccess) (file : List ℕ) (old : Memory) (how : MemEnd)
    (new : Memory) : Type 0 where
  pub end : how ≡ end_at Store old (plan a false) (a.body.start + limit) a.body.end
      (stop_index Store old (plan a false) a.body.start (a.body.start + limit) a.body.end)
  pub value : new ≡ memory_stored old (element_start a) file (transfers (plan a false) a.body.start
      (stop_index Store old (plan a false) a.body.start (a.body.start + limit) a.body.end - a.body.start))

-- a load of these transfers, if each is allowed, changed the registers from `old` to `new`
pub record AllLoaded {T : Type 0} (m : Memory) (place : Transfer → ℕ) (ts : List Transfer) (old : List ℕ)
    (result : Result T Fault) (new : List ℕ) : Type 0 where
  pub ok : IsOk result ↔ (are_allowed Load m ts ≡ true)
  pub fault : IfErr result (λ fault. fault.addr ≡ bad_address Load m ts)
  pub value : OnOk result (new ≡ registers_loaded m place old ts)
  pub unchanged : OnErr result (new ≡ old)

-- a store of these transfers, if each is allowed, changed the memory from `old` to `new`
pub record AllStored {T : Type 0} (place : Transfer → ℕ) (file : List ℕ) (ts : List Transfer) (old : Memory)
    (result : Result T Fault) (new : Memory) : Type 0 where
  pub ok : IsOk result ↔ (are_allowed Store old ts ≡ true)
  pub fault : IfErr result (λ fault. fault.addr ≡ bad_address Store old ts)
  pub value : OnOk result (new ≡ memory_stored old place file ts)

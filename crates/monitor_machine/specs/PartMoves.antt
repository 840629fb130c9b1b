-- The machine that the parts of one user represent, and the state that a change of these parts leaves unchanged.
use Rattle.std.specs.Prelude.{◌≡◌}
use Rattle.lazy_context.specs.LazyUnit.{state_of}
use Rattle.rv_model.specs.machine.World.{Private, Present}
use Rattle.rv_model.specs.machine.VectorUnit.{VectorUnit}
use Rattle.user_mem.specs.Users.{memory_of_user, with_memory}
use Rattle.monitor_machine.specs.declared.parts.Parts.{Parts}
use Rattle.monitor_machine.specs.Parts.{Addresses, UnitMoves, present, private_of}

module _ {A : Type 0} where
  -- the user's private machine with this trace, and the machine of a user who has entered
  abbrev pub machine_of : Parts A → Addresses → Private
  machine_of p trace = private_of p.context.now trace (state_of p.unit.now p.user) (memory_of_user p.pool.now p.user)

  abbrev pub present_of : Parts A → Addresses → Present
  present_of p trace = present p.context.now trace (state_of p.unit.now p.user) (memory_of_user p.pool.now p.user)

  -- the same parts of the same user after a change: in the pool, only the user's memory has changed; in the vector unit, only the user's
  -- state has changed, and its record is `count`
  pub record PartsMove (old new : Parts A) (count : VectorUnit) : Type 0 where
    pub unit : UnitMoves old.user old.unit.now new.unit.now count
    pub others : new.pool.now ≡ with_memory old.pool.now old.user (memory_of_user new.pool.now old.user)
    pub user : new.user ≡ old.user
    pub same_context : new.context.ghost_name ≡ old.context.ghost_name
    pub same_unit : new.unit.ghost_name ≡ old.unit.ghost_name
    pub same_pool : new.pool.ghost_name ≡ old.pool.ghost_name

-- The private machines and the world that the fields of a machine represent.
use Rattle.std.specs.Prelude.{ℕ, ◌≡◌, ◌&&◌, Bool, length, map, List, [], ◌∷◌, true, false, if◌then◌else◌, Some, None}
use Rattle.rv_model.specs.declared.vector.policy.Policy.TheVariants.{Keep}
use Rattle.rv_model.specs.declared.vector.state.VState.{VState}
use Rattle.rv_model.specs.memory.Memory.{Memory}
use Rattle.rv_model.specs.step.Step.{HartState}
use Rattle.rv_model.specs.machine.World.{Private, Present}
use Rattle.rv_model.specs.machine.UserMachine.{Use, Tries}
use Rattle.rv_model.specs.scalar.Registers.{initial_scalar, with_register}
use Rattle.rv_model.specs.declared.machine.run_state.RunState.{RunState}
use Rattle.rv_model.specs.declared.machine.run_state.RunState.TheVariants.{Absent, Stopped, Running}
use Rattle.rv_model.specs.machine.Script.{World}
use Rattle.rv_model.specs.machine.Setup.{user_count, users}
use Rattle.rv_model.specs.machine.VectorUnit.{VectorUnit}
use Rattle.lazy_context.specs.declared.unit.Unit.{Unit}
use Rattle.lazy_context.specs.LazyUnit.{IsSettled, OthersKeep, record_of, state_of}
use Rattle.monitor_machine.specs.declared.context.Context.{Context}

-- the context of an absent user
abbrev pub new_context : Context
new_context = record {
  entered = false;
  scalar = initial_scalar;
  policy = Keep;
  output = record { items = [] };
  breakpoints = [];
  running = false;
  fresh = false;
}

-- the context of a user who has loaded an image with this entry address
abbrev pub loaded_context : ℕ → Context
loaded_context entry = record new_context { entered = true; scalar = with_register 2 0x7fffefc0 (record initial_scalar { pc = entry }) }

-- the state of the hart, with a user's vector state and memory
abbrev pub context_state : Context → VState → Memory → HartState
context_state c vector memory =
    record { scalar = c.scalar; vector = vector; memory = memory; output = c.output.items; policy = c.policy }

-- an attempt to execute an instruction with `left` ticks left
abbrev pub try_of : ℕ → Context → VState → Memory → Use
try_of left c vector memory = Tries left (context_state c vector memory)

-- the addresses of a trace, the oldest first
abbrev pub Addresses : Type 0
Addresses = List ℕ

-- the machine of a user who has entered
abbrev pub present : Context → Addresses → VState → Memory → Present
present c trace vector memory = record {
  hart = context_state c vector memory;
  breakpoints = c.breakpoints;
  trace = trace;
  running = c.running;
  fresh = c.fresh;
}

-- the private machine of a context, a trace, a vector state and a memory
abbrev pub private_of : Context → Addresses → VState → Memory → Private
private_of c trace vector memory = if c.entered then Some (present c trace vector memory) else None

-- whether the user of a context has entered and the program is running
abbrev pub is_running : Context → Bool
is_running c = c.entered && c.running

-- the state of the user's program
abbrev pub context_run_state : Context → RunState
context_run_state c = if c.entered then (if c.running then Running else Stopped) else Absent

-- the private machines of all users
abbrev pub parts_of : List Context → List Addresses → List VState → List Memory → List Private
parts_of [] traces vectors memories = []
parts_of (c ∷ cs) [] vectors memories = []
parts_of (c ∷ cs) (t ∷ ts) [] memories = []
parts_of (c ∷ cs) (t ∷ ts) (v ∷ vs) [] = []
parts_of (c ∷ cs) (t ∷ ts) (v ∷ vs) (m ∷ memories) = private_of c t v m ∷ parts_of cs ts vs memories

-- the vector states of all users, from the one vector unit
unfoldable pub states_of : Unit → List VState
states_of unit = map (state_of unit) users

-- the world of these contexts and traces, this vector unit and these memories; `cursor` is the user who had the last turn
abbrev pub world_of : List Context → List Addresses → Unit → List Memory → ℕ → World
world_of contexts traces unit memories cursor =
    record { parts = parts_of contexts traces (states_of unit) memories; cursor = cursor; unit = record_of unit }

-- there is a context, a trace and a memory for each user, and the vector unit is settled
pub record IsWhole (cs : List Context) (ts : List Addresses) (unit : Unit) (ms : List Memory) : Type 0 where
  pub contexts : length cs ≡ user_count
  pub traces : length ts ≡ user_count
  pub memories : length ms ≡ user_count
  pub settled : IsSettled unit

-- a change of the vector unit by an event of a user: it is settled, the other users' vector states are unchanged, and its record is
-- `count`
pub record UnitMoves (user : ℕ) (old new : Unit) (count : VectorUnit) : Type 0 where
  pub settled : IsSettled new
  pub others_keep : OthersKeep user old new
  pub counts : record_of new ≡ count

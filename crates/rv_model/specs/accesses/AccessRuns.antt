-- The state after a vector load or store that starts at vstart and has a limit on its indices, and how it ends. See "V" Vector Extension
-- 1.0, sections 3.7, 7.4 to 7.9 and 17.1.
use Rattle.std.specs.Prelude.{ℕ, ◌+◌, ◌-◌, Bool, false, ◌&&◌, max, nat_lt, Option, Some, None, if◌then◌else◌}
use Rattle.rv_model.specs.declared.instructions.operations.Direction.TheVariants as direction
use Rattle.rv_model.specs.declared.memory.Access.TheVariants.{Load, Store}
pub use Rattle.rv_model.specs.declared.step.memory_end.MemEnd.{MemEnd}
use Rattle.rv_model.specs.declared.step.memory_end.MemEnd.TheVariants.{Done, Fault, Cut}
use Rattle.rv_model.specs.accesses.Transfers.{end_at, registers_loaded, stop_index, memory_stored, transfers}
pub use Rattle.rv_model.specs.accesses.VectorAccess.{AccessInstr, Direction, Scalar, VState, VectorAccess, access_of, element_start, plan}
pub use Rattle.rv_model.specs.memory.Memory.{Memory}

-- the vector state and the memory after a load or store, and how it ends; the tail isn't filled yet
pub record AccessRun : Type 0 where
  pub vector : VState
  pub memory : Memory
  pub end : MemEnd
  -- one past the last index that it attempted, including one that faulted; vstart + 1 if it ends without attempting any
  pub reached : ℕ

abbrev pub runs_to : MemEnd → ℕ → VState → Memory → AccessRun
runs_to end reached v m = record { vector = v; memory = m; end = end; reached = reached }

-- a run after its transfers; `count` is the end of its indices. vstart is the index at which they stopped, or 0 once they are done. A fault
-- of a fault-only-first load at an index other than 0 doesn't trap: it reduces vl to that index (section 7.7).
abbrev pub access_ends : Bool → ℕ → VState → Memory → MemEnd → AccessRun
access_ends first_only count v m Done = runs_to Done (max (v.vstart + 1) count) (record v { vstart = 0 }) m
access_ends first_only count v m (Cut index) = runs_to (Cut index) index (record v { vstart = index }) m
access_ends first_only count v m (Fault index addr) =
    if first_only && nat_lt 0 index then runs_to Done (index + 1) (record v { conf = record v.conf { vl = index }; vstart = 0 }) m
    else runs_to (Fault index addr) (index + 1) (record v { vstart = index }) m

-- a load of at most `limit` indices; the flag selects whether masked-off elements become all ones
unfoldable pub load_run : ℕ → Bool → VectorAccess → VState → Memory → AccessRun
load_run limit fill_masked_off a v m =
    let each = plan a fill_masked_off in
    let start = a.body.start in
    let stop = stop_index Load m each start (start + limit) a.body.end in
    let done = transfers each start (stop - start) in
    access_ends a.first_only a.body.end (record v { file = registers_loaded m (element_start a) v.file done }) m
    (end_at Load m each (start + limit) a.body.end stop)

-- a store of at most `limit` indices
unfoldable pub store_run : ℕ → VectorAccess → VState → Memory → AccessRun
store_run limit a v m =
    let each = plan a false in
    let start = a.body.start in
    let stop = stop_index Store m each start (start + limit) a.body.end in
    let done = transfers each start (stop - start) in
    access_ends false a.body.end v (memory_stored m (element_start a) v.file done)
    (end_at Store m each (start + limit) a.body.end stop)

-- a load or store, by its direction
abbrev pub directed_run : Direction → ℕ → Bool → VectorAccess → VState → Memory → AccessRun
directed_run direction.Load limit fill_masked_off a v m = load_run limit fill_masked_off a v m
directed_run direction.Store limit fill_masked_off a v m = store_run limit a v m

-- the same, if there is an access. Otherwise nothing happens: a vector type is needed and there is none, which legality excludes.
abbrev pub run_or_nothing : ℕ → Bool → Option VectorAccess → VState → Memory → AccessRun
run_or_nothing limit fill_masked_off None v m = runs_to Done (v.vstart + 1) v m
run_or_nothing limit fill_masked_off (Some a) v m = directed_run a.direction limit fill_masked_off a v m

-- a vector load or store of at most `limit` indices
unfoldable pub access_run : ℕ → Bool → AccessInstr → VState → Scalar → Memory → AccessRun
access_run limit fill_masked_off i v x m = run_or_nothing limit fill_masked_off (access_of i v x) v m

-- Vector loads and stores that stop early and resume at vstart ("V" Vector Extension 1.0, sections 3.7, 7.7 and 17.1). The rules on
-- overlapping registers are those of sections 5.2, 5.3 and 7.8.
use Rattle.std.specs.Prelude.{◌≡◌, ◌≢◌, ℕ, ◌+◌, ◌-◌, ◌*◌, ◌<◌, ◌≤◌, Bool, List, [], ◌∷◌, ◌++◌, IsSomeAnd, Some, ⊤}
use Rattle.std.specs.FinMap.{get, from_entries, entries}
use Rattle.std.specs.List.{fold}
use Rattle.std.specs.Option.{option_or}
use Rattle.rv_model.specs.declared.instructions.instruction.Instr.TheVariants as instr
use Rattle.rv_model.specs.declared.instructions.access.AccessInstr.TheVariants.{Indexed}
use Rattle.rv_model.specs.declared.instructions.operations.Direction.TheVariants as direction
use Rattle.rv_model.specs.declared.instructions.operations.Order.{Order}
use Rattle.rv_model.specs.declared.instructions.operations.Eew.{Eew}
use Rattle.rv_model.specs.declared.step.memory_end.MemEnd.TheVariants.{Cut, Done, Fault}
use Rattle.rv_model.specs.declared.vector.sizes.TheConstants.{VLENB}
use Rattle.rv_model.specs.accesses.AccessRuns.{AccessInstr, AccessRun, Memory, Scalar, VState, VectorAccess, access_of, access_run}
use Rattle.rv_model.specs.accesses.VectorAccess.{VType, group_type, index_count}
use Rattle.rv_model.specs.vector.Groups.{access_type, IsConfiguration, vlmax, width_bytes, registers}
use Rattle.rv_model.specs.legality.Legality.{IsLegal}
use Rattle.rv_model.specs.memory.Memory.{Cell}

-- ---- a memory that grows between two runs

-- every address that m maps has the same byte and permissions in `more`
abbrev pub Extends : Memory → Memory → Type 0
Extends m more = (x : ℕ) (c : Cell) → get m x ≡ Some c → get more x ≡ Some c

-- the cells of m, and at addresses that m doesn't map those of `more`
unfoldable pub overlay : Memory → Memory → Memory
overlay m more = from_entries (entries m ++ entries more)

-- ---- registers that a load doesn't overwrite

-- byte b of the register file belongs to element i, of k bytes, of the group that starts at a register
abbrev pub IsByteOf : ℕ → ℕ → ℕ → ℕ → Type 0
IsByteOf register k i b = (VLENB * register + i * k ≤ b) × (b < VLENB * register + i * k + k)

-- a legal indexed load that changes element i of a field changes no index element past i
abbrev pub LaterIndicesUnchanged : Type 0
LaterIndicesUnchanged = (order : Order) (width : Eew) (nf vd rs1 vs2 : ℕ) (vm : Bool) (t : VType) (vstart : ℕ)
    → IsLegal (instr.Access (Indexed direction.Load order width nf vd rs1 vs2 vm)) (Some t) vstart
    → (field i k b : ℕ) → field ≤ nf → i < k → k < vlmax t
    → IsByteOf (vd + field * registers (group_type t).emul) (width_bytes (group_type t).width) i b
    → ¬ IsByteOf vs2 (width_bytes (access_type t width).width) k b

-- ---- an instruction that stops and resumes

-- The vector state after a load or store that stops early. vstart is one of its indices, at or past the one where it started. The vector
-- type and length, the rounding mode and the saturation flag are unchanged. After a store the registers are unchanged too.
pub record IsStopped (a : VectorAccess) (before after : VState) : Type 0 where
  pub from : before.vstart ≤ after.vstart
  pub below : after.vstart < a.body.end
  pub conf : after.conf ≡ before.conf
  pub rounding : after.vxrm ≡ before.vxrm
  pub saturation : after.vxsat ≡ before.vxsat
  pub registers : a.direction ≡ direction.Store → after.file ≡ before.file

-- A run that is cut has completed exactly `limit` indices, and a run that faults fewer. Its vstart is the first index that isn't complete.
pub record StopIndex (limit : ℕ) (v : VState) (run : AccessRun) : Type 0 where
  pub cut : (index : ℕ) → run.end ≡ Cut index → (index ≡ v.vstart + limit) × (run.vector.vstart ≡ index)
  pub fault : (index addr : ℕ) → run.end ≡ Fault index addr → (index < v.vstart + limit) × (run.vector.vstart ≡ index)

abbrev pub AccessStopIndex : Type 0
AccessStopIndex = (i : AccessInstr) (limit : ℕ) (fill_masked_off : Bool) (v : VState) (x : Scalar) (m : Memory)
    → StopIndex limit v (access_run limit fill_masked_off i v x m)

-- ---- instructions that stop and resume any number of times

-- An operation that may stop early and resume, such as a load or store from a given vector state. `whole` is the first run, with a limit in
-- a memory. `again` is a run that follows another one, with its own limit and memory. `done` is the number of indices completed when a run
-- ends. `MayFollow` relates the memory of a run, the run, and the memory of the next run. It requires that the run was cut or faulted, and
-- that the next memory extends the one that it left. `IsUncut` excludes runs that are cut.
pub record Restartable (R : Type 0) : Type 1 where
  pub whole : ℕ → Memory → R
  pub again : ℕ → Memory → R → R
  pub done : R → ℕ
  pub MayFollow : Memory → R → Memory → Type 0
  pub IsUncut : R → Type 0

-- A run can be resumed. The next run has the result of a single whole run: one that finds all new cells in memory from the start, and whose
-- limit also counts the indices already completed.
abbrev pub GoesOn : {R : Type 0} → Restartable R → Memory → R → Type 0
GoesOn k m run = (limit : ℕ) (more : Memory) → k.MayFollow m run more
    → k.again limit more run ≡ k.whole (k.done run + limit) (overlay m more)

-- a run after the first: its limit on indices, and its memory
pub record NextRun : Type 0 where
  pub limit : ℕ
  pub memory : Memory

-- the last of a sequence of runs that resume `run`
abbrev pub last_run : {R : Type 0} → Restartable R → R → List NextRun → R
last_run k run nexts = fold (λ run next. k.again next.limit next.memory run) run nexts

-- a memory with all cells that the memories of the next runs add
abbrev pub with_new : Memory → List NextRun → Memory
with_new m nexts = fold (λ m next. overlay m next.memory) m nexts

-- each run may follow the one before it; the memory before it is m with all cells that were added so far
abbrev pub AreResumed : {R : Type 0} → Restartable R → Memory → R → List NextRun → Type 0
AreResumed k m run [] = ⊤
AreResumed k m run (next ∷ rest) =
    k.MayFollow m run next.memory × AreResumed k (overlay m next.memory) (k.again next.limit next.memory run) rest

-- After any number of cuts and faults, and with any limits, a last run that isn't cut has the result of one whole run. The whole run finds
-- all new cells in memory from the start, and has a sufficient limit.
abbrev pub EndsWhole : {R : Type 0} → Restartable R → ℕ → Memory → R → Type 0
EndsWhole k enough m run = (nexts : List NextRun) (limit : ℕ) → AreResumed k m run nexts → k.IsUncut (last_run k run nexts)
    → enough ≤ limit → last_run k run nexts ≡ k.whole limit (with_new m nexts)

-- if a run isn't cut, it has the same result with a larger limit
abbrev pub LargerLimitIsSame : {R : Type 0} → Restartable R → Type 0
LargerLimitIsSame k = (limit larger : ℕ) (m : Memory) → limit ≤ larger → k.IsUncut (k.whole limit m)
    → k.whole larger m ≡ k.whole limit m

-- ---- a load or store

-- an access from a vector state on; `fill` selects whether a load fills masked-off elements. It resumes in the vector state that it left.
abbrev pub access_from : Bool → AccessInstr → Scalar → VState → Restartable AccessRun
access_from fill i x v = record {
  whole = λ limit m. access_run limit fill i v x m;
  again = λ limit m run. access_run limit fill i run.vector x m;
  done = λ run. run.vector.vstart - v.vstart;
  MayFollow = λ m run more. (run.end ≢ Done) × Extends run.memory more;
  IsUncut = λ run. (index : ℕ) → run.end ≢ Cut index;
}

-- Properties of a run of an access in memory m: its state if it stopped, and that it can be resumed.
pub record AccessGoesOn (fill : Bool) (i : AccessInstr) (x : Scalar) (v : VState) (m : Memory) (run : AccessRun) : Type 0 where
  pub part : run.end ≢ Done → IsSomeAnd (access_of i v x) (λ a. IsStopped a v run.vector)
  pub again : GoesOn (access_from fill i x v) m run
  pub whole : EndsWhole (access_from fill i x v) (index_count (access_of i v x)) m run

-- every run of a legal access has these properties, with any limit
abbrev pub AccessesGoOn : Type 0
AccessesGoOn = (i : AccessInstr) (limit : ℕ) (fill : Bool) (v : VState) (x : Scalar) (m : Memory)
    → IsLegal (instr.Access i) v.conf.vtype v.vstart → IsConfiguration v.conf
    → AccessGoesOn fill i x v m (access_run limit fill i v x m)

-- ---- laws of overlays

-- an overlay has the cell of m where m maps the address, and the cell of `more` elsewhere
abbrev pub OverlayIsEither : Type 0
OverlayIsEither = (m more : Memory) (x : ℕ) → get (overlay m more) x ≡ option_or (get m x) (get more x)

-- the overlay of m and a memory that extends it is the extended memory; so a load, which writes no memory, resumes in the extended memory
abbrev pub OverlayOfGrown : Type 0
OverlayOfGrown = (m more : Memory) → Extends m more → overlay m more ≡ more

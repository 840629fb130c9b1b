-- A legal vector load or store that stops and is executed again has the end and the result of the uninterrupted one.
use Rattle.std.proofs.Common.{◌≡◌, ◌≢◌, ℕ, ◌+◌, ◌-◌, ◌<◌, ◌≤◌, Bool, false, ◌&&◌, List, refl, sym, ◌∙◌, ap, subst, arith}
use Rattle.std.specs.Prelude.{nat_le, nat_lt}
use Rattle.std.proofs.lemmas.Bool.Decides.{nat_tests}
use Rattle.rv_model.specs.declared.memory.Access.TheVariants as access
use Rattle.rv_model.specs.declared.step.memory_end.MemEnd.{MemEnd}
use Rattle.rv_model.specs.declared.step.memory_end.MemEnd.TheVariants.{Done}
use Rattle.rv_model.specs.declared.vector.state.VState.{VState}
use Rattle.rv_model.specs.accesses.AccessRuns.{AccessRun, access_ends, load_run, store_run}
use Rattle.rv_model.specs.accesses.Restarts.{Extends, overlay}
use Rattle.rv_model.specs.accesses.Transfers.{Plan, end_at}
use Rattle.rv_model.specs.accesses.VectorAccess.{VectorAccess, element_start, plan}
use Rattle.rv_model.specs.memory.Memory.{Memory}
use Rattle.rv_model.proofs.access_lemmas.Growth.{overlay_grown}
use Rattle.rv_model.proofs.access_lemmas.Runs.{access_again}
use Rattle.rv_model.proofs.Choices.{of_either, of_test}
use Rattle.rv_model.proofs.access_lemmas.Resumes.{Progress, load_moves, load_moves_resume, stop_from, store_moves, store_moves_resume}

-- ---- runs that may stop, as functions of a limit, the vector state and the memory

abbrev pub Run : Type 0
Run = ℕ → VState → Memory → AccessRun

-- a run that stopped with the result `left` preserves the vector type and length, and equals the uninterrupted run once it is executed
-- again
pub record IsResumed (run : Run) (later : ℕ) (v : VState) (m more : Memory) (left : AccessRun) : Type 0 where
  pub conf : left.vector.conf ≡ v.conf
  pub same : run later left.vector more ≡ run (left.vector.vstart - v.vstart + later) v (overlay m more)

abbrev pub ResumesFrom : Run → ℕ → VState → Memory → Memory → AccessRun → Type 0
ResumesFrom run later v m more left = left.end ≢ Done → Extends left.memory more → IsResumed run later v m more left

abbrev pub Resumes : Run → ℕ → ℕ → VState → Memory → Memory → Type 0
Resumes run limit later v m more = ResumesFrom run later v m more (run limit v m)

-- ---- loads

-- the transfers of a load of at most `limit` indices
abbrev pub load_transfers : ℕ → Bool → VectorAccess → List ℕ → Memory → Progress (List ℕ)
load_transfers limit fill a file m = load_moves m (element_start a) (plan a fill) file a.body.start (a.body.start + limit) a.body.end

-- the run of a load in a state, after these transfers
abbrev after_load : VectorAccess → VState → Memory → Progress (List ℕ) → AccessRun
after_load a v m moved = access_ends a.first_only a.body.end (record v { file = moved.left }) m moved.end

load_is : (limit : ℕ) (fill : Bool) (a : VectorAccess) (v : VState) (m : Memory)
    → load_run limit fill a v m ≡ after_load a v m (load_transfers limit fill a v.file m)
unfolding load_run
load_is limit fill a v m = refl

-- the end of an instruction sets vstart, so it doesn't depend on the start if that is one of the indices
begins_alike : (first_only : Bool) (count : ℕ) (v : VState) (m : Memory) (end : MemEnd) (file : List ℕ) (start : ℕ) → v.vstart < count → start < count
    → access_ends first_only count (record v { file = file; vstart = start }) m end ≡ access_ends first_only count (record v { file = file }) m end
begins_alike first_only count v m end file start h g = search arith

-- a load that stops
record LoadStopped (run : AccessRun) (v : VState) (m : Memory) (moved : Progress (List ℕ)) (n : ℕ) : Type 0 where
  below : moved.stop < n
  vector : run.vector ≡ record v { file = moved.left; vstart = moved.stop }
  memory : run.memory ≡ m

load_stopped : (limit : ℕ) (fill : Bool) (a : VectorAccess) (v : VState) (m : Memory) → (load_run limit fill a v m).end ≢ Done
    → LoadStopped (load_run limit fill a v m) v m (load_transfers limit fill a v.file m) a.body.end
unfolding load_run end_at
load_stopped limit fill a v m =
    let moved : Progress (List ℕ) = load_transfers limit fill a v.file m in
    let Q : AccessRun → Type 0 = λ run. run.end ≢ Done → LoadStopped run v m moved a.body.end in
    let P : MemEnd → Type 0 = λ end. Q (access_ends a.first_only a.body.end (record v { file = moved.left }) m end) in
    of_test P (nat_le a.body.end moved.stop) _ _ (λ e ended. absurd (ended refl))
    (λ e. of_test P (nat_le (a.body.start + limit) moved.stop) _ _ (λ f ended. record { below = grind (arith, nat_tests, e); vector = refl; memory = refl })
    (λ f. of_either Q (a.first_only && nat_lt 0 moved.stop) _ _ (λ ended. absurd (ended refl))
    (λ ended. record { below = grind (arith, nat_tests, e); vector = refl; memory = refl })))

load_again : (limit later : ℕ) (fill : Bool) (a : VectorAccess) (mask : List ℕ) (address : ℕ → ℕ) (v : VState) (m more : Memory) → Extends m more
    → a.body.start ≡ v.vstart
    → (load_transfers limit fill a v.file m).stop < a.body.end
    → ((k : ℕ) → (load_transfers limit fill a v.file m).stop ≤ k → k < a.body.end → plan (access_again a mask (load_transfers limit fill a v.file m).stop address) fill k ≡ plan a fill k)
    → load_run later fill (access_again a mask (load_transfers limit fill a v.file m).stop address)
    (record v { file = (load_transfers limit fill a v.file m).left; vstart = (load_transfers limit fill a v.file m).stop }) more
    ≡ load_run ((load_transfers limit fill a v.file m).stop - a.body.start + later) fill a v more
load_again limit later fill a mask address v m more grown begins below stays =
    let moved : Progress (List ℕ) = load_transfers limit fill a v.file m in
    let stop : ℕ = moved.stop in
    let b : VectorAccess = access_again a mask stop address in
    let from : a.body.start ≤ stop = stop_from access.Load m (plan a fill) a.body.start (a.body.start + limit) a.body.end (omega arith) below in
    let resumed = load_moves_resume m more (element_start a) (plan a fill) (plan b fill) v.file a.body.start (a.body.start + limit) (stop + later) a.body.end grown (omega arith) below (omega arith) stays in
    let rest : Progress (List ℕ) = load_moves more (element_start a) (plan a fill) v.file a.body.start (stop + later) a.body.end in
    load_is later fill b (record v { file = moved.left; vstart = stop }) more
    ∙ ap (λ (r : Progress (List ℕ)). access_ends a.first_only a.body.end (record v { file = r.left; vstart = stop }) more r.end) resumed
    ∙ begins_alike a.first_only a.body.end v more rest.end rest.left stop (omega (arith, begins, from, below)) below
    ∙ ap (λ (n : ℕ). after_load a v more (load_moves more (element_start a) (plan a fill) v.file a.body.start n a.body.end)) (omega (arith, from))
    ∙ sym (load_is (stop - a.body.start + later) fill a v more)

-- an access as a function of the state, and the same access after changes of the registers and of vstart
pub record IsMade (make : VState → VectorAccess) (v : VState) (mask : List ℕ → List ℕ) (address : List ℕ → ℕ → ℕ) : Type 0 where
  pub begins : (make v).body.start ≡ v.vstart
  pub again : (file : List ℕ) (start : ℕ) → make (record v { file = file; vstart = start }) ≡ access_again (make v) (mask file) start (address file)

pub load_resumes : (make : VState → VectorAccess) (mask : List ℕ → List ℕ) (address : List ℕ → ℕ → ℕ) (limit later : ℕ) (fill : Bool) (v : VState) (m more : Memory)
    → IsMade make v mask address
    → ((k : ℕ) → (load_transfers limit fill (make v) v.file m).stop ≤ k → k < (make v).body.end
    → plan (access_again (make v) (mask (load_transfers limit fill (make v) v.file m).left) (load_transfers limit fill (make v) v.file m).stop (address (load_transfers limit fill (make v) v.file m).left)) fill k
    ≡ plan (make v) fill k)
    → Resumes (λ limit v m. load_run limit fill (make v) v m) limit later v m more
load_resumes make mask address limit later fill v m more made stays ended grown =
    let run : AccessRun = load_run limit fill (make v) v m in
    let moved : Progress (List ℕ) = load_transfers limit fill (make v) v.file m in
    let s = load_stopped limit fill (make v) v m ended in
    let wider : Extends m more = subst (λ (n : Memory). Extends n more) s.memory grown in
    let done : moved.stop - (make v).body.start + later ≡ run.vector.vstart - v.vstart + later =
    ap (λ (n : ℕ). moved.stop - n + later) made.begins ∙ ap (λ (w : VState). w.vstart - v.vstart + later) (sym s.vector) in
    record {
      conf = ap (λ (w : VState). w.conf) s.vector;
      same =
          ap (λ (w : VState). load_run later fill (make w) w more) s.vector
          ∙ ap (λ (b : VectorAccess). load_run later fill b (record v { file = moved.left; vstart = moved.stop }) more) (made.again moved.left moved.stop)
          ∙ load_again limit later fill (make v) (mask moved.left) (address moved.left) v m more wider made.begins s.below stays
          ∙ ap (λ (n : ℕ). load_run n fill (make v) v more) done
          ∙ ap (λ (o : Memory). load_run (run.vector.vstart - v.vstart + later) fill (make v) v o) (sym (overlay_grown m more wider));
    }

-- ---- stores

abbrev store_transfers : ℕ → VectorAccess → List ℕ → Memory → Progress Memory
store_transfers limit a file m = store_moves m (element_start a) (plan a false) file a.body.start (a.body.start + limit) a.body.end

abbrev after_store : VectorAccess → VState → Progress Memory → AccessRun
after_store a v moved = access_ends false a.body.end v moved.left moved.end

store_is : (limit : ℕ) (a : VectorAccess) (v : VState) (m : Memory) → store_run limit a v m ≡ after_store a v (store_transfers limit a v.file m)
unfolding store_run
store_is limit a v m = refl

record StoreStopped (run : AccessRun) (v : VState) (moved : Progress Memory) (n : ℕ) : Type 0 where
  below : moved.stop < n
  vector : run.vector ≡ record v { vstart = moved.stop }
  memory : run.memory ≡ moved.left

store_stopped : (limit : ℕ) (a : VectorAccess) (v : VState) (m : Memory) → (store_run limit a v m).end ≢ Done
    → StoreStopped (store_run limit a v m) v (store_transfers limit a v.file m) a.body.end
unfolding store_run end_at
store_stopped limit a v m =
    let moved : Progress Memory = store_transfers limit a v.file m in
    let P : MemEnd → Type 0 = λ end. let run : AccessRun = access_ends false a.body.end v moved.left end in run.end ≢ Done → StoreStopped run v moved a.body.end in
    of_test P (nat_le a.body.end moved.stop) _ _ (λ e ended. absurd (ended refl))
    (λ e. of_either P (nat_le (a.body.start + limit) moved.stop) _ _ (λ ended. record { below = grind (arith, nat_tests, e); vector = refl; memory = refl })
    (λ ended. record { below = grind (arith, nat_tests, e); vector = refl; memory = refl }))

abbrev pub access_from : VectorAccess → ℕ → VectorAccess
access_from a start = record a { body = record a.body { start = start } }

plan_from : (a : VectorAccess) (start : ℕ) → plan (access_from a start) false ≡ plan a false
unfolding plan
plan_from a start = refl

store_again : (limit later : ℕ) (a : VectorAccess) (v : VState) (m more : Memory) → Extends (store_transfers limit a v.file m).left more
    → a.body.start ≡ v.vstart
    → (store_transfers limit a v.file m).stop < a.body.end
    → store_run later (access_from a (store_transfers limit a v.file m).stop) (record v { vstart = (store_transfers limit a v.file m).stop }) more
    ≡ store_run ((store_transfers limit a v.file m).stop - a.body.start + later) a v (overlay m more)
store_again limit later a v m more grown begins below =
    let stop : ℕ = (store_transfers limit a v.file m).stop in
    let from : a.body.start ≤ stop = stop_from access.Store m (plan a false) a.body.start (a.body.start + limit) a.body.end (omega arith) below in
    let rest : Progress Memory = store_moves (overlay m more) (element_start a) (plan a false) v.file a.body.start (stop + later) a.body.end in
    store_is later (access_from a stop) (record v { vstart = stop }) more
    ∙ ap (λ (each : Plan). after_store a (record v { vstart = stop }) (store_moves more (element_start a) each v.file stop (stop + later) a.body.end)) (plan_from a stop)
    ∙ ap (after_store a (record v { vstart = stop }))
    (store_moves_resume m more (element_start a) (plan a false) v.file a.body.start (a.body.start + limit) (stop + later) a.body.end grown (omega arith) below (omega arith))
    ∙ begins_alike false a.body.end v rest.left rest.end v.file stop (omega (arith, begins, from, below)) below
    ∙ ap (λ (n : ℕ). after_store a v (store_moves (overlay m more) (element_start a) (plan a false) v.file a.body.start n a.body.end)) (omega (arith, from))
    ∙ sym (store_is (stop - a.body.start + later) a v (overlay m more))

pub store_resumes : (make : VState → VectorAccess) (limit later : ℕ) (v : VState) (m more : Memory)
    → (make v).body.start ≡ v.vstart
    → ((start : ℕ) → make (record v { vstart = start }) ≡ access_from (make v) start)
    → Resumes (λ limit v m. store_run limit (make v) v m) limit later v m more
store_resumes make limit later v m more begins again ended grown =
    let moved : Progress Memory = store_transfers limit (make v) v.file m in
    let s = store_stopped limit (make v) v m ended in
    let done : moved.stop - (make v).body.start + later ≡ (store_run limit (make v) v m).vector.vstart - v.vstart + later =
    ap (λ (n : ℕ). moved.stop - n + later) begins ∙ ap (λ (w : VState). w.vstart - v.vstart + later) (sym s.vector) in
    record {
      conf = ap (λ (w : VState). w.conf) s.vector;
      same =
          ap (λ (w : VState). store_run later (make w) w more) s.vector
          ∙ ap (λ (b : VectorAccess). store_run later b (record v { vstart = moved.stop }) more) (again moved.stop)
          ∙ store_again limit later (make v) v m more (subst (λ (n : Memory). Extends n more) s.memory grown) begins s.below
          ∙ ap (λ (n : ℕ). store_run n (make v) v (overlay m more)) done;
    }

-- Any number of runs of one vector load or store, and runs with a larger limit.
use Rattle.std.proofs.Common.{◌≡◌, ◌≢◌, ℕ, zero, suc, ◌+◌, ◌-◌, ◌<◌, ◌≤◌, inl, inr, Bool, true, false, cond, List, [], ◌∷◌, min, refl, sym, ◌∙◌, ap, subst, arith}
use Rattle.std.specs.Prelude.{nat_le}
use Rattle.std.proofs.lemmas.Bool.{cases_lt, le-leb, lt-leb}
use Rattle.std.proofs.lemmas.Bool.Decides.{nat_tests}
use Rattle.rv_model.specs.declared.instructions.access.AccessInstr.{AccessInstr}
use Rattle.rv_model.specs.declared.instructions.operations.Direction.{Direction}
use Rattle.rv_model.specs.declared.instructions.operations.Direction.TheVariants as direction
use Rattle.rv_model.specs.declared.memory.Access.{Access}
use Rattle.rv_model.specs.declared.memory.Access.TheVariants as access
use Rattle.rv_model.specs.declared.scalar.Scalar.{Scalar}
use Rattle.rv_model.specs.declared.step.memory_end.MemEnd.{MemEnd}
use Rattle.rv_model.specs.declared.step.memory_end.MemEnd.TheVariants.{Cut}
use Rattle.rv_model.specs.declared.vector.state.VState.{VState}
use Rattle.rv_model.specs.accesses.AccessRuns.{AccessRun, access_ends, access_run, directed_run, load_run, run_or_nothing, store_run}
use Rattle.rv_model.specs.accesses.Restarts.{AreResumed, EndsWhole, GoesOn, LargerLimitIsSame, NextRun, Restartable, access_from, last_run, overlay, with_new}
use Rattle.rv_model.specs.accesses.Transfers.{Plan, Transfer, are_allowed, end_at, registers_loaded, stop_index, memory_stored}
use Rattle.rv_model.specs.accesses.VectorAccess.{VectorAccess, access_of, index_count, element_start, plan}
use Rattle.rv_model.specs.memory.Memory.{Memory}
use Rattle.rv_model.proofs.access_lemmas.Resumes.{Progress, moves, progress_equal, stop_most}
use Rattle.rv_model.proofs.access_lemmas.Runs.{AtStop, CutAt, FaultAt, of_access, run_facts}
use Rattle.rv_model.proofs.access_lemmas.Stops.{first_bad, stop_is, stop_past}
use Rattle.rv_model.proofs.Choices.{of_option}

-- ---- a larger limit than one without a cut

abbrev pub IsUncut : MemEnd → Type 0
IsUncut end = (index : ℕ) → end ≢ Cut index

module _ (access : Access) (m : Memory) (each : Plan) where
  -- indices past one that isn't allowed change nothing
  first_bad_more : (i c d none other : ℕ) → i + c ≤ none → first_bad access m each i c none < i + c
      → first_bad access m each i (c + d) other ≡ first_bad access m each i c none
  unfolding first_bad
  first_bad_more i zero d none other room h = absurd (omega (arith, room, h))
  first_bad_more i (suc c) d none other room h =
      let next : suc c + d ≡ suc (c + d) = omega arith in
      ap (λ (n : ℕ). first_bad access m each i n other) next
      ∙ named (are_allowed access m (each i)) refl (first_bad_more (i + 1) c d none other (omega (arith, room)))
    where
      named : (b : Bool) → are_allowed access m (each i) ≡ b
          → (first_bad access m each (i + 1) c none < (i + 1) + c → first_bad access m each (i + 1) (c + d) other ≡ first_bad access m each (i + 1) c none)
          → first_bad access m each i (suc (c + d)) other ≡ first_bad access m each i (suc c) none
      named true e rest =
          let under : (n end : ℕ) → first_bad access m each i (suc n) end ≡ first_bad access m each (i + 1) n end =
          λ n end. ap (λ (t : Bool). cond t (first_bad access m each (i + 1) n end) i) e in
          under (c + d) other ∙ rest (omega (arith, h, under c none)) ∙ sym (under c none)
      named false e rest =
          ap (λ (t : Bool). cond t (first_bad access m each (i + 1) (c + d) other) i) e
          ∙ sym (ap (λ (t : Bool). cond t (first_bad access m each (i + 1) c none) i) e)

  stop_more : (i cut larger n : ℕ) → i ≤ cut → cut ≤ larger → IsUncut (end_at access m each cut n (stop_index access m each i cut n))
      → stop_index access m each i larger n ≡ stop_index access m each i cut n
  unfolding end_at
  stop_more i cut larger n low more uncut = elim (cases_lt n i) [
    | inl past ↦
        let same : min n larger ≡ min n cut = omega (arith, past, low, more) in
        stop_past access m each i larger n (omega (arith, past)) ∙ same ∙ sym (stop_past access m each i cut n (omega (arith, past)))
    | inr within ↦ elim (cases_lt (first_bad access m each i c none) (i + c)) [
      | inl early ↦
          stop_is access m each i larger n
          ∙ ap (λ (k : ℕ). first_bad access m each i k (min n larger)) (omega (arith, more))
          ∙ first_bad_more i c (min n larger - i - c) none (min n larger) (omega (arith, within, low)) early
          ∙ sym (stop_is access m each i cut n)
      | inr whole ↦ elim (cases_lt cut n) [
        | inl less ↦ absurd (stops (omega (arith, whole, within, low, less, stop_is access m each i cut n, stop_most access m each i cut n)) less)
        | inr most ↦
            stop_is access m each i larger n ∙ ap (λ (k : ℕ). first_bad access m each i (k - i) k) (omega (arith, most, more)) ∙ sym (stop_is access m each i cut n)
      ]
    ]
  ]
    where
      none : ℕ
      none = min n cut

      c : ℕ
      c = none - i

      stops : stop_index access m each i cut n ≡ cut → cut < n → ⊥
      stops at less =
          let more : nat_le n (stop_index access m each i cut n) ≡ false = lt-leb n (stop_index access m each i cut n) (omega (arith, at, less)) in
          let over : nat_le cut (stop_index access m each i cut n) ≡ true = le-leb cut (stop_index access m each i cut n) (omega (arith, at)) in
          uncut (stop_index access m each i cut n) (cc)

  end_more : (i cut larger n stop : ℕ) → cut ≤ larger → IsUncut (end_at access m each cut n stop)
      → end_at access m each larger n stop ≡ end_at access m each cut n stop
  unfolding end_at
  end_more i cut larger n stop more uncut = search (arith, cases_lt, le-leb, lt-leb)

moves_more : {X : Type 0} (access : Access) (m : Memory) (each : Plan) (left : List Transfer → X) (i cut larger n : ℕ) → i ≤ cut → cut ≤ larger
    → IsUncut (moves access m each left i cut n).end → moves access m each left i larger n ≡ moves access m each left i cut n
moves_more access m each left i cut larger n low more uncut = search (arith, nat_tests, end_more, progress_equal, stop_more)

ends_uncut : (first_only : Bool) (count : ℕ) (v : VState) (m : Memory) (end : MemEnd) → IsUncut (access_ends first_only count v m end).end → IsUncut end
ends_uncut first_only count v m end h = search (arith, nat_tests)

module _ (limit larger : ℕ) (fill : Bool) (v : VState) (m : Memory) (more : limit ≤ larger) where
  -- the larger limit gives the same result if the smaller one doesn't cut
  abbrev IsSame : (ℕ → AccessRun) → Type 0
  IsSame run = IsUncut (run limit).end → run larger ≡ run limit

  moved_same : {X : Type 0} (access : Access) (each : Plan) (left : List Transfer → X) (ends : X → MemEnd → AccessRun) (start n : ℕ)
      → ((x : X) (end : MemEnd) → IsUncut (ends x end).end → IsUncut end)
      → IsSame (λ limit. ends (moves access m each left start (start + limit) n).left (moves access m each left start (start + limit) n).end)
  moved_same {X} access each left ends start n whole uncut =
      ap (λ (r : Progress X). ends r.left r.end)
      (moves_more access m each left start (start + limit) (start + larger) n (omega arith) (omega (arith, more)) (whole _ _ uncut))

  pub directed_same : (d : Direction) (a : VectorAccess) → IsSame (λ limit. directed_run d limit fill a v m)
  unfolding load_run store_run
  directed_same direction.Load a =
      moved_same access.Load (plan a fill) (registers_loaded m (element_start a) v.file)
      (λ file end. access_ends a.first_only a.body.end (record v { file = file }) m end) a.body.start a.body.end
      (λ file end. ends_uncut a.first_only a.body.end (record v { file = file }) m end)
  directed_same direction.Store a =
      moved_same access.Store (plan a false) (memory_stored m (element_start a) v.file) (λ after end. access_ends false a.body.end v after end)
      a.body.start a.body.end (λ after end. ends_uncut false a.body.end v after end)

  limit_same : (i : AccessInstr) (x : Scalar) → IsSame (λ limit. access_run limit fill i v x m)
  unfolding access_run
  limit_same i x =
      of_option (access_of i v x) (λ o. IsSame (λ limit. run_or_nothing limit fill o v m)) (λ e uncut. refl) (λ a e. directed_same a.direction a)

pub larger_limit_is_same : (fill : Bool) (i : AccessInstr) (x : Scalar) (v : VState) → LargerLimitIsSame (access_from fill i x v)
larger_limit_is_same fill i x v limit larger m more uncut = limit_same limit larger fill v m more i x uncut

-- a limit of all indices cuts no run
pub whole_uncut : (i : AccessInstr) (whole : ℕ) (fill : Bool) (v : VState) (x : Scalar) (m : Memory) → index_count (access_of i v x) ≤ whole
    → IsUncut (access_run whole fill i v x m).end
whole_uncut i whole fill v x m =
    of_access whole fill i v x m (λ o run. index_count o ≤ whole → IsUncut run.end) (λ enough index e. absurd (cc))
    (λ a is enough index e.
    let run : AccessRun = directed_run a.direction whole fill a v m in
    let at : CutAt whole v.vstart a.body.end v run index =
    subst (λ (end : MemEnd). AtStop end (CutAt whole v.vstart a.body.end v run) (FaultAt whole v.vstart a.body.end v run)) e (run_facts whole fill i v x m a is).stop in
    omega (arith, at.at, at.stopped.below, enough))

-- ---- any number of runs

module _ (R : Type 0) (k : Restartable R) (on : (limit : ℕ) (m : Memory) → GoesOn k m (k.whole limit m)) where
  -- the last run equals a single run in the memory with all new addresses mapped from the start
  last_is_one : (limit : ℕ) (m : Memory) (nexts : List NextRun) → AreResumed k m (k.whole limit m) nexts
      → (total : ℕ) × (last_run k (k.whole limit m) nexts ≡ k.whole total (with_new m nexts))
  last_is_one limit m [] resumed = (limit, refl)
  last_is_one limit m (next ∷ rest) resumed =
      let done : ℕ = k.done (k.whole limit m) + next.limit in
      let same : k.again next.limit next.memory (k.whole limit m) ≡ k.whole done (overlay m next.memory) = on limit m next.limit next.memory resumed.0 in
      let others = last_is_one done (overlay m next.memory) rest (subst (λ (r : R). AreResumed k (overlay m next.memory) r rest) same resumed.1) in
      (others.0, ap (λ (r : R). last_run k r rest) same ∙ others.1)

  -- all limits without a cut give the same result
  agree : LargerLimitIsSame k → (limit other : ℕ) (m : Memory) → k.IsUncut (k.whole limit m) → k.IsUncut (k.whole other m)
      → k.whole limit m ≡ k.whole other m
  agree larger limit other m uncut too = search (arith, cases_lt)

  pub ends_whole : (enough : ℕ) → LargerLimitIsSame k → ((limit : ℕ) (m : Memory) → enough ≤ limit → k.IsUncut (k.whole limit m))
      → (limit : ℕ) (m : Memory) → EndsWhole k enough m (k.whole limit m)
  ends_whole enough larger whole limit m nexts other resumed uncut most = search (arith, nat_tests, agree, last_is_one)

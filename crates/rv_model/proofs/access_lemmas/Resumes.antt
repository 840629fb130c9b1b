-- The transfers of a vector load or store that stops before its end and continues from there.
use Rattle.std.proofs.Common.{◌≡◌, ℕ, zero, suc, ◌+◌, ◌-◌, ◌<◌, ◌≤◌, true, false, cond, List, ◌++◌, min, refl, sym, ◌∙◌, ap, subst, inl, inr, arith}
use Rattle.std.proofs.lemmas.Bool.{and_from, cases_eq, cases_lt, le-leb}
use Rattle.std.proofs.lemmas.Bool.Decides.{nat_tests}
use Rattle.rv_model.specs.accesses.Restarts.{Extends, overlay}
use Rattle.rv_model.specs.accesses.Transfers.{Plan, Transfer, are_allowed, bad_address, end_at, registers_loaded, stop_index, memory_stored, transfers}
use Rattle.rv_model.specs.declared.memory.Access.{Access}
use Rattle.rv_model.specs.declared.memory.Access.TheVariants.{Load, Store}
use Rattle.rv_model.specs.declared.step.memory_end.MemEnd.{MemEnd}
use Rattle.rv_model.specs.memory.Memory.{Memory}
use Rattle.rv_model.specs.memory.Memory as memory
use Rattle.rv_model.proofs.access_lemmas.Growth.{are_allowed_extends, loaded_extends, overlay_extends, overlay_stored}
use Rattle.rv_model.proofs.access_lemmas.Moves.{AllowTheSame, allowed_none, are_allowed-append, are_allowed_same, bad_address_same, loaded-append, stored-append, stored_allows}
use Rattle.rv_model.proofs.access_lemmas.Stops.{AllAllowed, first_bad, first_bad_skip, stop_is, stop_past, transfers-add}

-- ---- plans that are equal from one index up to another

transfers_same : (each other : Plan) (i n : ℕ) → ((k : ℕ) → i ≤ k → k < i + n → each k ≡ other k) → transfers each i n ≡ transfers other i n
unfolding transfers
transfers_same each other i zero h = refl
transfers_same each other i (suc n) h = search (arith, transfers_same each other (i + 1) n (λ k l g. h k (omega arith) (omega arith)))

-- and tests that are equal
first_bad_same : (access : Access) (m other : Memory) (each rest : Plan) (i n none : ℕ)
    → ((k : ℕ) → i ≤ k → k < i + n → are_allowed access m (each k) ≡ are_allowed access other (rest k))
    → first_bad access m each i n none ≡ first_bad access other rest i n none
unfolding first_bad
first_bad_same access m other each rest i zero none h = refl
first_bad_same access m other each rest i (suc n) none h =
    search (arith, first_bad_same access m other each rest (i + 1) n none (λ k l g. h k (omega arith) (omega arith)))

stop_same : (access : Access) (m other : Memory) (each rest : Plan) (i cut n : ℕ)
    → ((k : ℕ) → i ≤ k → k < n → are_allowed access m (each k) ≡ are_allowed access other (rest k))
    → stop_index access m each i cut n ≡ stop_index access other rest i cut n
stop_same access m other each rest i cut n h = search (arith, first_bad_same, stop_is)

end_same : (access : Access) (m other : Memory) (each rest : Plan) (cut n stop : ℕ)
    → (stop < n → bad_address access m (each stop) ≡ bad_address access other (rest stop))
    → end_at access m each cut n stop ≡ end_at access other rest cut n stop
unfolding end_at
end_same access m other each rest cut n stop h = search (arith, nat_tests, cases_lt, le-leb)

-- ---- the index where transfers stop

module _ (access : Access) (m : Memory) (each : Plan) where
  pub first_bad_bounds : (i n none : ℕ) → i + n ≤ none → (i ≤ first_bad access m each i n none) × (first_bad access m each i n none ≤ none)
  unfolding first_bad
  first_bad_bounds i zero none h = (omega (arith, h), omega arith)
  first_bad_bounds i (suc n) none h = search (arith, first_bad_bounds (i + 1) n none (omega (arith, h)))

  allowed_before : (i n none k : ℕ) → i ≤ k → k < i + n → k < first_bad access m each i n none → are_allowed access m (each k) ≡ true
  unfolding first_bad
  allowed_before i zero none k l r h = absurd (omega (arith, l, r))
  allowed_before i (suc n) none k l r h =
      elim (are_allowed access m (each i)) as (λ b. are_allowed access m (each i) ≡ b → k < cond b (first_bad access m each (i + 1) n none) i → are_allowed access m (each k) ≡ true) [
        | true ↦ λ e g. elim (cases_eq k i) [
          | inl q ↦ ap (λ (j : ℕ). are_allowed access m (each j)) q ∙ e
          | inr q ↦ let less : i + 1 ≤ k = omega arith in allowed_before (i + 1) n none k less (omega (arith, r)) g
        ]
        | false ↦ λ e g. absurd (omega arith)
      ] refl h

  -- it is at least the start, and at most the end and the cut
  stop_bounds : (i cut n : ℕ) → i ≤ min n cut → (i ≤ stop_index access m each i cut n) × (stop_index access m each i cut n ≤ min n cut)
  stop_bounds i cut n h = search (arith, first_bad_bounds, stop_is)

  pub stop_least : (i cut n : ℕ) → i ≤ n → i ≤ cut → i ≤ stop_index access m each i cut n
  stop_least i cut n h g = (stop_bounds i cut n (omega (arith, h, g))).0

  pub stop_most : (i cut n : ℕ) → stop_index access m each i cut n ≤ min n cut
  stop_most i cut n = search (arith, cases_lt, stop_bounds, stop_past)

  -- the same if the start is past the end, for transfers that aren't complete
  pub stop_from : (i cut n : ℕ) → i ≤ cut → stop_index access m each i cut n < n → i ≤ stop_index access m each i cut n
  stop_from i cut n low less = search (arith, cases_lt, stop_bounds, stop_past)

  pub allowed_done : (i cut n : ℕ) → AllAllowed access m each i (stop_index access m each i cut n)
  allowed_done i cut n k l h = search (arith, allowed_before, stop_is, stop_most)

  all_allowed : (i n : ℕ) → AllAllowed access m each i (i + n) → are_allowed access m (transfers each i n) ≡ true
  unfolding transfers
  all_allowed i zero h = allowed_none access m
  all_allowed i (suc n) h = search (arith, and_from, are_allowed-append, all_allowed (i + 1) n (λ k l g. h k (omega arith) (omega arith)))

  -- the completed transfers were allowed
  done_allowed : (i cut n : ℕ) → are_allowed access m (transfers each i (stop_index access m each i cut n - i)) ≡ true
  done_allowed i cut n = all_allowed i _ (λ k a b. allowed_done i cut n k a (omega (arith, a, b)))

  rest_of : (i stop later n : ℕ) → i ≤ stop → stop < n → stop ≤ later → min n later - i ≡ (stop - i) + (min n later - stop)
  rest_of i stop later n a b c = omega arith

  -- transfers beyond the completed ones stop at the same index as those that start after the completed ones
  stop_again : (i stop later n : ℕ) → i ≤ stop → stop < n → stop ≤ later → AllAllowed access m each i stop
      → stop_index access m each i later n ≡ stop_index access m each stop later n
  stop_again i stop later n l below within ok =
      stop_is access m each i later n
      ∙ ap (λ (c : ℕ). first_bad access m each i c (min n later)) (rest_of i stop later n l below within)
      ∙ first_bad_skip access m each i (stop - i) (min n later - stop) (min n later) (λ k a b. ok k a (omega arith))
      ∙ ap (λ (j : ℕ). first_bad access m each j (min n later - stop) (min n later)) (omega arith)
      ∙ sym (stop_is access m each stop later n)

-- the transfers up to a later index are the completed ones followed by those from there on
transfers_split : (each : Plan) (i stop again : ℕ) → i ≤ stop → stop ≤ again → transfers each i (again - i) ≡ transfers each i (stop - i) ++ transfers each stop (again - stop)
transfers_split each i stop again a b =
    ap (λ (c : ℕ). transfers each i c) (omega arith) ∙ transfers-add each i (stop - i) (again - stop)
    ∙ ap (λ (j : ℕ). transfers each i (stop - i) ++ transfers each j (again - stop)) (omega arith)

-- ---- the transfers of a plan, from an index on

-- the result of transfers, the index where they stop, and their end
pub record Progress (X : Type 0) : Type 0 where
  pub left : X
  pub stop : ℕ
  pub end : MemEnd

abbrev pub moves : {X : Type 0} → Access → Memory → Plan → (List Transfer → X) → ℕ → ℕ → ℕ → Progress X
moves access m each left start cut n =
    let stop = stop_index access m each start cut n in
    record { left = left (transfers each start (stop - start)); stop = stop; end = end_at access m each cut n stop }

-- the transfers of a load, whose result is the register file; `place` gives the start of an element
abbrev pub load_moves : Memory → (Transfer → ℕ) → Plan → List ℕ → ℕ → ℕ → ℕ → Progress (List ℕ)
load_moves m place each file start cut n = moves Load m each (registers_loaded m place file) start cut n

-- the transfers of a store, whose result is a memory
abbrev pub store_moves : Memory → (Transfer → ℕ) → Plan → List ℕ → ℕ → ℕ → ℕ → Progress Memory
store_moves m place each file start cut n = moves Store m each (memory_stored m place file) start cut n

pub progress_equal : {X : Type 0} (r s : Progress X) → r.left ≡ s.left → r.stop ≡ s.stop → r.end ≡ s.end → r ≡ s
progress_equal r s a b c = λ i. record { left = a i; stop = b i; end = c i }

-- ---- loads

-- a load that stops and continues in a grown memory ends like a load that found the grown memory from the start, if the remaining
-- transfers are equal
pub load_moves_resume : (m more : Memory) (place : Transfer → ℕ) (each rest : Plan) (file : List ℕ) (i cut later n : ℕ)
    → Extends m more
    → i ≤ cut
    → (load_moves m place each file i cut n).stop < n
    → (load_moves m place each file i cut n).stop ≤ later
    → ((k : ℕ) → (load_moves m place each file i cut n).stop ≤ k → k < n → rest k ≡ each k)
    → load_moves more place rest (load_moves m place each file i cut n).left (load_moves m place each file i cut n).stop later n
    ≡ load_moves more place each file i later n
load_moves_resume m more place each rest file i cut later n grown begins below within stable =
    let stop = stop_index Load m each i cut n in
    let half = registers_loaded m place file (transfers each i (stop - i)) in
    let low = stop_from Load m each i cut n begins below in
    let whole = stop_again Load more each i stop later n low below within (λ k a b. are_allowed_extends Load m more (each k) grown (allowed_done Load m each i cut n k a b)) in
    let stops = stop_same Load more more rest each stop later n (λ k l h. ap (are_allowed Load more) (stable k l h)) ∙ sym whole in
    let again = stop_index Load more each i later n in
    let further : stop ≤ again = subst (λ (s : ℕ). stop ≤ s) (sym whole) (stop_least Load more each stop later n (omega (arith, below)) within) in
    let top : again ≤ n = omega (arith, whole, stop_most Load more each stop later n) in
    let done = loaded_extends m more place file (transfers each i (stop - i)) grown (done_allowed Load m each i cut n) in
    progress_equal _ _
    (ap (λ (s : ℕ). registers_loaded more place half (transfers rest stop (s - stop))) stops
    ∙ ap (λ (ts : List Transfer). registers_loaded more place half ts) (transfers_same rest each stop (again - stop) (λ k l g. stable k l (omega arith)))
    ∙ ap (λ (f : List ℕ). registers_loaded more place f (transfers each stop (again - stop))) (sym done)
    ∙ sym (loaded-append more place file (transfers each i (stop - i)) (transfers each stop (again - stop)))
    ∙ ap (λ (ts : List Transfer). registers_loaded more place file ts) (sym (transfers_split each i stop again low further)))
    stops
    (ap (λ (s : ℕ). end_at Load more rest later n s) stops
    ∙ end_same Load more more rest each later n again (λ l. ap (bad_address Load more) (stable again further l)))

-- ---- stores

-- a store that does so ends like a store that found the new addresses mapped from the start
pub store_moves_resume : (m more : Memory) (place : Transfer → ℕ) (each : Plan) (file : List ℕ) (i cut later n : ℕ)
    → Extends (store_moves m place each file i cut n).left more
    → i ≤ cut
    → (store_moves m place each file i cut n).stop < n
    → (store_moves m place each file i cut n).stop ≤ later
    → store_moves more place each file (store_moves m place each file i cut n).stop later n
    ≡ store_moves (overlay m more) place each file i later n
store_moves_resume m more place each file i cut later n grown begins below within =
    let stop = stop_index Store m each i cut n in
    let low = stop_from Store m each i cut n begins below in
    let first = transfers each i (stop - i) in
    let start = overlay m more in
    let joined = overlay_stored m more place file first (done_allowed Store m each i cut n) grown in
    let agree : AllowTheSame Store more start =
    λ x. ap (λ (o : Memory). memory.can_access_byte Store o x) (sym joined) ∙ stored_allows Store start place file first x in
    let whole = stop_again Store start each i stop later n low below within (λ k a b. are_allowed_extends Store m start (each k) (overlay_extends m more) (allowed_done Store m each i cut n k a b)) in
    let stops = stop_same Store more start each each stop later n (λ k l h. are_allowed_same Store more start (each k) agree) ∙ sym whole in
    let again = stop_index Store start each i later n in
    let further : stop ≤ again = subst (λ (s : ℕ). stop ≤ s) (sym whole) (stop_least Store start each stop later n (omega (arith, below)) within) in
    progress_equal _ _
    (ap (λ (s : ℕ). memory_stored more place file (transfers each stop (s - stop))) stops
    ∙ ap (λ (o : Memory). memory_stored o place file (transfers each stop (again - stop))) (sym joined)
    ∙ sym (stored-append start place file first (transfers each stop (again - stop)))
    ∙ ap (λ (ts : List Transfer). memory_stored start place file ts) (sym (transfers_split each i stop again low further)))
    stops
    (ap (λ (s : ℕ). end_at Store more each later n s) stops
    ∙ end_same Store more start each each later n again (λ l. bad_address_same Store more start (each again) agree))

-- The index where a vector load or store stops, by induction on the indices, and its end there.
use Rattle.std.proofs.Common.{◌≡◌, ℕ, zero, suc, ◌+◌, ◌-◌, ◌<◌, ◌≤◌, Bool, true, false, cond, List, [], ◌++◌, min, refl, sym, ◌∙◌, ap, arith, append_assoc}
use Rattle.std.specs.List.{find, range_with_len}
use Rattle.std.specs.Option.{unwrap_or}
use Rattle.std.specs.Prelude.{not}
use Rattle.std.proofs.lemmas.Bool.{cases_eq, le-leb, lt-leb}
use Rattle.std.proofs.lemmas.List.{append-nil}
use Rattle.std.proofs.lemmas.Bool.Decides.{nat_tests}
use Rattle.rv_model.specs.declared.memory.Access.{Access}
use Rattle.rv_model.specs.declared.step.memory_end.MemEnd.{MemEnd}
use Rattle.rv_model.specs.declared.step.memory_end.MemEnd.TheVariants.{Done, Fault, Cut}
use Rattle.rv_model.specs.accesses.Transfers.{Plan, Transfer, are_allowed, bad_address, end_at, stop_index, transfers}
use Rattle.rv_model.specs.memory.Memory.{Memory}
use Rattle.rv_model.proofs.Choices.{of_bool}

-- ---- lists of transfers

pub transfers-add : (plan : Plan) (i a b : ℕ) → transfers plan i (a + b) ≡ transfers plan i a ++ transfers plan (i + a) b
unfolding transfers
transfers-add plan i zero b = ap (λ (n : ℕ). transfers plan i n) (omega arith) ∙ ap (λ (j : ℕ). transfers plan j b) (omega arith)
transfers-add plan i (suc a) b =
    let next : suc a + b ≡ suc (a + b) = omega arith in
    ap (λ (n : ℕ). transfers plan i n) next
    ∙ ap (λ (ts : List Transfer). plan i ++ ts) (transfers-add plan (i + 1) a b)
    ∙ sym (append_assoc (plan i) (transfers plan (i + 1) a) (transfers plan ((i + 1) + a) b))
    ∙ ap (λ (j : ℕ). (plan i ++ transfers plan (i + 1) a) ++ transfers plan j b) (omega arith)

-- the transfers of no index
pub transfers_none : (plan : Plan) (i j : ℕ) → j ≤ i → transfers plan i (j - i) ≡ []
unfolding transfers
transfers_none plan i j h = let none : j - i ≡ 0 = omega arith in ap (λ (n : ℕ). transfers plan i n) none

-- the transfers of one index
transfers_one : (plan : Plan) (i : ℕ) → transfers plan i 1 ≡ plan i
unfolding transfers
transfers_one plan i = append-nil (plan i)

-- one more index
pub transfers_more : (plan : Plan) (i j : ℕ) → i ≤ j → transfers plan i ((j + 1) - i) ≡ transfers plan i (j - i) ++ plan j
transfers_more plan i j h =
    ap (λ (n : ℕ). transfers plan i n) (omega arith) ∙ transfers-add plan i (j - i) 1
    ∙ ap (λ (k : ℕ). transfers plan i (j - i) ++ transfers plan k 1) (omega arith)
    ∙ ap (λ (ts : List Transfer). transfers plan i (j - i) ++ ts) (transfers_one plan j)

-- ---- the first incomplete index

-- search for the first index that isn't allowed
unfoldable pub first_bad : Access → Memory → Plan → ℕ → ℕ → ℕ → ℕ
first_bad access m plan i zero none = none
first_bad access m plan i (suc n) none = cond (are_allowed access m (plan i)) (first_bad access m plan (i + 1) n none) i

found_is : (access : Access) (m : Memory) (plan : Plan) (i n none : ℕ)
    → unwrap_or (find (λ k. not (are_allowed access m (plan k))) (range_with_len i n)) none ≡ first_bad access m plan i n none
unfolding first_bad
found_is access m plan i zero none = refl
found_is access m plan i (suc n) none = search (arith, nat_tests, of_bool, found_is access m plan (i + 1) n none)

module _ (access : Access) (m : Memory) (plan : Plan) where
  pub stop_is : (i cut n : ℕ) → stop_index access m plan i cut n ≡ first_bad access m plan i (min n cut - i) (min n cut)
  unfolding stop_index
  stop_is i cut n = found_is access m plan i (min n cut - i) (min n cut)

  -- a start past the end
  pub stop_past : (i cut n : ℕ) → min n cut < i → stop_index access m plan i cut n ≡ min n cut
  unfolding first_bad
  stop_past i cut n h = search (arith, stop_is)

  -- each index from i up to but not including j is allowed
  abbrev pub AllAllowed : ℕ → ℕ → Type 0
  AllAllowed i j = (k : ℕ) → i ≤ k → k < j → are_allowed access m (plan k) ≡ true

  -- one more index
  pub allowed_more : (i j : ℕ) → AllAllowed i j → are_allowed access m (plan j) ≡ true → AllAllowed i (j + 1)
  allowed_more i j before here k low high = search (arith, cases_eq)

  pub first_bad_skip : (i a b none : ℕ) → AllAllowed i (i + a) → first_bad access m plan i (a + b) none ≡ first_bad access m plan (i + a) b none
  unfolding first_bad
  first_bad_skip i zero b none h = search arith
  first_bad_skip i (suc a) b none h =
      let next : suc a + b ≡ suc (a + b) = omega arith in
      ap (λ (n : ℕ). first_bad access m plan i n none) next
      ∙ ap (λ (t : Bool). cond t (first_bad access m plan (i + 1) (a + b) none) i) (h i (omega arith) (omega arith))
      ∙ first_bad_skip (i + 1) a b none (λ k l g. h k (omega arith) (omega arith))
      ∙ ap (λ (j : ℕ). first_bad access m plan j b none) (omega arith)

  -- an index that isn't allowed
  stop_found : (i cut n j : ℕ) → i ≤ j → j < n → j < cut → AllAllowed i j → are_allowed access m (plan j) ≡ false
      → stop_index access m plan i cut n ≡ j
  unfolding first_bad
  stop_found i cut n j a b c before bad =
      stop_is i cut n
      ∙ ap (λ (e : ℕ). first_bad access m plan i e (min n cut)) (omega arith)
      ∙ first_bad_skip i (j - i) (suc ((min n cut) - (j + 1))) (min n cut) (λ k l g. before k l (omega arith))
      ∙ ap (λ (k : ℕ). first_bad access m plan k (suc ((min n cut) - (j + 1))) (min n cut)) (omega arith)
      ∙ ap (λ (t : Bool). cond t (first_bad access m plan (j + 1) ((min n cut) - (j + 1)) (min n cut)) j) bad

  -- no such index
  stop_none : (i cut n : ℕ) → AllAllowed i (min n cut) → stop_index access m plan i cut n ≡ min n cut
  unfolding first_bad
  stop_none i cut n before =
      stop_is i cut n
      ∙ ap (λ (e : ℕ). first_bad access m plan i e (min n cut)) (omega arith)
      ∙ first_bad_skip i (min n cut - i) 0 (min n cut) (λ k l g. before k l (omega arith))

  -- ---- the end of an instruction

  end_done : (cut n j : ℕ) → n ≤ j → end_at access m plan cut n j ≡ Done
  unfolding end_at
  end_done cut n j h = let done = le-leb n j h in cc

  end_cut : (cut n j : ℕ) → j < n → cut ≤ j → end_at access m plan cut n j ≡ Cut j
  unfolding end_at
  end_cut cut n j h g = let more = lt-leb n j h in let reached = le-leb cut j g in cc

  end_fault : (cut n j : ℕ) → j < n → j < cut → end_at access m plan cut n j ≡ Fault j (bad_address access m (plan j))
  unfolding end_at
  end_fault cut n j h g = let more = lt-leb n j h in let left = lt-leb cut j g in cc

  -- the completed transfers, and the end
  pub record Stopped (i cut n stop : ℕ) (how : MemEnd) : Type 0 where
    pub done : transfers plan i (stop_index access m plan i cut n - i) ≡ transfers plan i (stop - i)
    pub end : end_at access m plan cut n (stop_index access m plan i cut n) ≡ how

  -- the end at an index that isn't allowed
  pub stops_bad : (i cut n j : ℕ) → i ≤ j → j < n → j < cut → AllAllowed i j → are_allowed access m (plan j) ≡ false
      → Stopped i cut n j (Fault j (bad_address access m (plan j)))
  stops_bad i cut n j low less within before bad = search (arith, nat_tests, end_fault, stop_found)

  -- the end after the last index
  pub stops_done : (i cut n : ℕ) → n ≤ cut → AllAllowed i n → Stopped i cut n n Done
  stops_done i cut n most before = search (arith, end_done, stop_none)

  -- the end at a cut
  pub stops_cut : (i cut n : ℕ) → i ≤ cut → cut < n → AllAllowed i cut → Stopped i cut n cut (Cut cut)
  stops_cut i cut n low less before = search (arith, end_cut, stop_none)

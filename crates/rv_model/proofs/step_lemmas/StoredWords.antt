-- A vector store without a byte in its own word leaves this word unchanged; no load changes a word.
use Rattle.std.proofs.Common.{◌≡◌, ◌≢◌, ℕ, zero, suc, ◌+◌, ◌-◌, ◌<◌, ◌≤◌, inl, inr, Bool, false, List, [], ◌∷◌, length, drop, refl, ◌∙◌, ap, arith, length-take}
use Rattle.std.specs.Prelude.{All, nat_le}
use Rattle.std.specs.FinMap.{get}
use Rattle.std.specs.Simd.Lanes.{chunk}
use Rattle.std.proofs.lemmas.List.Elements.{All-head, All-tail}
use Rattle.std.proofs.lemmas.Bool.Decides.{nat_tests}
use Rattle.rv_model.specs.declared.instructions.operations.Direction.{Direction}
use Rattle.rv_model.specs.declared.instructions.operations.Direction.TheVariants as direction
use Rattle.rv_model.specs.declared.memory.Access.TheVariants as access
use Rattle.rv_model.specs.declared.step.memory_end.MemEnd.{MemEnd}
use Rattle.rv_model.specs.declared.step.memory_end.MemEnd.TheVariants.{Done}
use Rattle.rv_model.specs.declared.vector.state.VState.{VState}
use Rattle.rv_model.specs.accesses.AccessRuns.{AccessRun, access_ends, directed_run, load_run, store_run}
use Rattle.rv_model.specs.accesses.Transfers.{Moved, Ones, Plan, Transfer, TransferKind, end_at, stop_index, memory_stored, transfers, with_element}
use Rattle.rv_model.specs.accesses.VectorAccess.{VectorAccess, element_start, plan}
use Rattle.rv_model.specs.memory.Memory.{Memory}
use Rattle.rv_model.specs.step.Resumes.{IsApart}
use Rattle.rv_model.proofs.access_lemmas.Moves.{stored-append}
use Rattle.rv_model.proofs.memory_lemmas.Memory.{get-put_bytes_outside}
use Rattle.rv_model.proofs.Choices.{of_either}

-- the word at an address is the same in both memories
abbrev pub SameWord : ℕ → Memory → Memory → Type 0
SameWord pc m other = (x : ℕ) → pc ≤ x → x < pc + 4 → get other x ≡ get m x

element_kept : (m : Memory) (size : ℕ) (bs : List ℕ) (kind : TransferKind) (pc x : ℕ) → length bs ≤ size → IsApart pc size kind → pc ≤ x → x < pc + 4
    → get (with_element m bs kind) x ≡ get m x
element_kept m size bs (Moved address) pc x short h a b =
    get-put_bytes_outside m address bs x (elim (h x a b) [ inl l ↦ inl l | inr g ↦ inr (omega arith) ])
element_kept m size bs Ones pc x short h a b = refl

-- a transfer leaves the word at an address unchanged
abbrev pub Leaves : ℕ → Transfer → Type 0
Leaves pc t = IsApart pc t.size t.kind

stored_kept : (m : Memory) (place : Transfer → ℕ) (file : List ℕ) (ts : List Transfer) (pc : ℕ) → All (Leaves pc) ts → SameWord pc m (memory_stored m place file ts)
unfolding memory_stored
stored_kept m place file [] pc h x a b = refl
stored_kept m place file (t ∷ ts) pc h x a b =
    let bs : List ℕ = chunk (place t) t.size file in
    stored_kept (with_element m bs t.kind) place file ts pc (All-tail (Leaves pc) t ts h) x a b
    ∙ element_kept m t.size bs t.kind pc x (omega (arith, length-take t.size (drop (place t) file))) (All-head (Leaves pc) t ts h) a b

transfers_kept : (m : Memory) (place : Transfer → ℕ) (file : List ℕ) (each : Plan) (i n pc : ℕ)
    → ((k : ℕ) → i ≤ k → k < i + n → All (Leaves pc) (each k)) → SameWord pc m (memory_stored m place file (transfers each i n))
unfolding transfers
transfers_kept m place file each i zero pc h x a b = stored_kept m place file [] pc (λ k d l. absurd (omega (arith, l))) x a b
transfers_kept m place file each i (suc n) pc h x a b =
    ap (λ (o : Memory). get o x) (stored-append m place file (each i) (transfers each (i + 1) n))
    ∙ transfers_kept (memory_stored m place file (each i)) place file each (i + 1) n pc (λ k l g. h k (omega (arith, l)) (omega (arith, g))) x a b
    ∙ stored_kept m place file (each i) pc (h i (omega arith) (omega arith)) x a b

-- no transfer before the index `stop` has a byte in the store's own word
abbrev TransfersApart : ℕ → ℕ → VectorAccess → Type 0
TransfersApart pc stop a = (i : ℕ) → a.body.start ≤ i → i < stop → All (Leaves pc) (plan a false i)

store_keeps : (limit : ℕ) (a : VectorAccess) (v : VState) (m : Memory) (pc : ℕ) → (store_run limit a v m).end ≢ Done
    → TransfersApart pc (store_run limit a v m).vector.vstart a → SameWord pc m (store_run limit a v m).memory
unfolding store_run end_at
store_keeps limit a v m pc =
    of_either Keeps (nat_le a.body.end stop) _ _ (λ ended h. absurd (ended refl))
    (of_either Keeps (nat_le (a.body.start + limit) stop) _ _ (λ ended. kept) (λ ended. kept))
  where
    stop : ℕ
    stop = stop_index access.Store m (plan a false) a.body.start (a.body.start + limit) a.body.end

    after : Memory
    after = memory_stored m (element_start a) v.file (transfers (plan a false) a.body.start (stop - a.body.start))

    kept : TransfersApart pc stop a → SameWord pc m after
    kept h = transfers_kept m (element_start a) v.file (plan a false) a.body.start (stop - a.body.start) pc (λ k l g. h k l (omega (arith, g, l)))

    Keeps : MemEnd → Type 0
    Keeps end =
        let run : AccessRun = access_ends false a.body.end v after end in
        run.end ≢ Done → TransfersApart pc run.vector.vstart a → SameWord pc m run.memory

ends_memory : (first_only : Bool) (count : ℕ) (v : VState) (m : Memory) (end : MemEnd) → (access_ends first_only count v m end).memory ≡ m
ends_memory first_only count v m end = search (arith, nat_tests, of_either)

load_keeps : (limit : ℕ) (fill : Bool) (a : VectorAccess) (v : VState) (m : Memory) (pc : ℕ) → SameWord pc m (load_run limit fill a v m).memory
unfolding load_run
load_keeps limit fill a v m pc x low high = search ends_memory

pub run_keeps_word : (d : Direction) (limit : ℕ) (fill : Bool) (a : VectorAccess) (v : VState) (m : Memory) (pc : ℕ)
    → (directed_run d limit fill a v m).end ≢ Done
    → (d ≡ direction.Store → TransfersApart pc (directed_run d limit fill a v m).vector.vstart a)
    → SameWord pc m (directed_run d limit fill a v m).memory
run_keeps_word direction.Load limit fill a v m pc ended h = load_keeps limit fill a v m pc
run_keeps_word direction.Store limit fill a v m pc ended h = store_keeps limit a v m pc ended (h refl)

-- Memories that grow between two runs of a vector load or store.
use Rattle.std.proofs.Common.{◌≡◌, ℕ, zero, suc, ◌+◌, ◌-◌, ◌<◌, ◌≤◌, ◌⊎◌, inl, inr, true, false, List, [], ◌∷◌, ◌++◌, length, drop, Option, Some, None, refl, sym, ◌∙◌, ap, arith, length-take}
use Rattle.std.specs.Cmp.{nat_cmp_total}
use Rattle.std.specs.FinMap.{entries, find, get, get-entries, get-from_entries}
use Rattle.std.specs.List.{list_all, range_with_len}
use Rattle.std.specs.Option.{option_map_or, option_or}
use Rattle.std.specs.Ordering.{nat_cmp}
use Rattle.std.specs.Simd.Lanes.{chunk, put_chunk}
use Rattle.std.proofs.lemmas.Bool.{and_from, and_parts, cases_eq, cases_lt}
use Rattle.std.proofs.lemmas.Bool.Decides.{nat_tests}
use Rattle.rv_model.specs.accesses.Restarts.{Extends, OverlayIsEither, OverlayOfGrown, overlay}
use Rattle.rv_model.specs.accesses.Transfers.{Transfer, TransferKind, are_allowed, bytes_loaded, can_move, can_transfer, registers_loaded, memory_stored, with_element}
use Rattle.rv_model.specs.declared.memory.Access.{Access}
use Rattle.rv_model.specs.declared.memory.Access.TheVariants.{Load, Monitor, Store}
use Rattle.rv_model.specs.memory.Memory.{Cell, Memory, bytes_at, can_access, permits, put_byte, put_bytes, memory_byte}
use Rattle.rv_model.specs.memory.Memory as memory
use Rattle.rv_model.proofs.access_lemmas.Moves.{stored_allows}
use Rattle.rv_model.proofs.memory_lemmas.Memory.{can_access-at, get-put_byte_other, get-put_byte_same, get-put_bytes_outside, same_memory}
use Rattle.rv_model.proofs.Choices.{of_option}

-- ---- allowed addresses are mapped

mapped : (access : Access) (o : Option Cell) → option_map_or (λ c. permits access c.permissions) o false ≡ true → (c : Cell) × (o ≡ Some c)
mapped access o h = search (arith, nat_tests)

allowed_mapped : (access : Access) (m : Memory) (x : ℕ) → memory.can_access_byte access m x ≡ true → (c : Cell) × (get m x ≡ Some c)
unfolding memory.can_access_byte
allowed_mapped access m x h = mapped access (get m x) h

mapped_allowed : (m : Memory) (x : ℕ) (c : Cell) → get m x ≡ Some c → memory.can_access_byte Monitor m x ≡ true
unfolding memory.can_access_byte
mapped_allowed m x c e = search

-- ---- allowed addresses stay allowed and keep their bytes

extends_at : (access : Access) (m more : Memory) (x : ℕ) → Extends m more → memory.can_access_byte access m x ≡ true → get more x ≡ get m x
extends_at access m more x grown h = search (arith, nat_tests, allowed_mapped)

pub allowed_by_get : (access : Access) (m more : Memory) (x : ℕ) → get more x ≡ get m x → memory.can_access_byte access more x ≡ memory.can_access_byte access m x
unfolding memory.can_access_byte
allowed_by_get access m more x e = ap (λ (o : Option Cell). option_map_or (λ c. permits access c.permissions) o false) e

pub byte_by_get : (m more : Memory) (x : ℕ) → get more x ≡ get m x → memory_byte more x ≡ memory_byte m x
unfolding memory_byte
byte_by_get m more x e = ap (λ (o : Option Cell). option_map_or (λ c. c.byte) o 0) e

pub can_access_extends : (access : Access) (m more : Memory) (a n : ℕ) → Extends m more → can_access access m a n ≡ true → can_access access more a n ≡ true
unfolding can_access
can_access_extends access m more a zero grown h = refl
can_access_extends access m more a (suc n) grown h =
    let parts = and_parts (memory.can_access_byte access m a) (list_all (memory.can_access_byte access m) (range_with_len (a + 1) n)) h in
    and_from _ _ (allowed_by_get access m more a (extends_at access m more a grown parts.0) ∙ parts.0)
    (can_access_extends access m more (a + 1) n grown parts.1)

pub bytes_at_extends : (access : Access) (m more : Memory) (a n : ℕ) → Extends m more → can_access access m a n ≡ true → bytes_at more a n ≡ bytes_at m a n
unfolding can_access bytes_at
bytes_at_extends access m more a zero grown h = refl
bytes_at_extends access m more a (suc n) grown h =
    let parts = and_parts (memory.can_access_byte access m a) (list_all (memory.can_access_byte access m) (range_with_len (a + 1) n)) h in
    let here = byte_by_get m more a (extends_at access m more a grown parts.0) in
    let rest = bytes_at_extends access m more (a + 1) n grown parts.1 in
    cc

pub are_allowed_extends : (access : Access) (m more : Memory) (ts : List Transfer) → Extends m more → are_allowed access m ts ≡ true → are_allowed access more ts ≡ true
unfolding are_allowed
are_allowed_extends access m more [] grown h = refl
are_allowed_extends access m more (t ∷ ts) grown h =
    let parts = and_parts (can_transfer access m t) (list_all (can_transfer access m) ts) h in
    and_from _ _ (search (arith, nat_tests, can_access_extends)) (are_allowed_extends access m more ts grown parts.1)

-- allowed transfers of a load leave the same registers in the grown memory
pub loaded_extends : (m more : Memory) (place : Transfer → ℕ) (file : List ℕ) (ts : List Transfer) → Extends m more → are_allowed Load m ts ≡ true → registers_loaded more place file ts ≡ registers_loaded m place file ts
unfolding registers_loaded are_allowed
loaded_extends m more place file [] grown h = refl
loaded_extends m more place file (t ∷ ts) grown h =
    let parts = and_parts (can_transfer Load m t) (list_all (can_transfer Load m) ts) h in
    ap (λ (bytes : List ℕ). registers_loaded more place (put_chunk (place t) file bytes) ts) (search (arith, nat_tests, bytes_at_extends))
    ∙ loaded_extends m more place (put_chunk (place t) file (bytes_loaded m t.size t.kind)) ts grown parts.1

-- ---- overlays

find_append : (q : ℕ) (xs ys : List (ℕ × Cell)) → find nat_cmp q (xs ++ ys) ≡ option_or (find nat_cmp q xs) (find nat_cmp q ys)
find_append q [] ys = refl
find_append q (e ∷ xs) ys = search (arith, nat_tests, find_append q xs ys)

pub get-overlay : OverlayIsEither
unfolding overlay
get-overlay m more x =
    get-from_entries nat_cmp_total (entries m ++ entries more) x ∙ find_append x (entries m) (entries more)
    ∙ ap (λ (o : Option Cell). option_or o (find nat_cmp x (entries more))) (sym (get-entries m x))
    ∙ ap (λ (o : Option Cell). option_or (get m x) o) (sym (get-entries more x))

pub overlay_extends : (m more : Memory) → Extends m (overlay m more)
overlay_extends m more x c e = get-overlay m more x ∙ ap (λ (o : Option Cell). option_or o (get more x)) e

-- the overlay of a memory on one that contains all of it is the larger one
pub overlay_grown : OverlayOfGrown
overlay_grown m more grown = same_memory _ _ (λ x. of_option (get m x) (λ o. get (overlay m more) x ≡ get more x)
    (λ e. get-overlay m more x ∙ ap (λ (o : Option Cell). option_or o (get more x)) e) (λ c e. overlay_extends m more x c e ∙ sym (grown x c e)))

-- the overlay of a memory on one that maps the same addresses is the first one
pub overlay_same : (m more : Memory) → ((x : ℕ) → memory.can_access_byte Monitor more x ≡ memory.can_access_byte Monitor m x)
    → overlay m more ≡ m
overlay_same m more same = same_memory _ _ (λ x. at x (get m x) (get more x) refl refl)
  where
    at : (x : ℕ) (o p : Option Cell) → get m x ≡ o → get more x ≡ p → get (overlay m more) x ≡ get m x
    at x (Some c) p e f = overlay_extends m more x c e ∙ sym e
    at x None None e f = get-overlay m more x ∙ ap (λ (o : Option Cell). option_or o (get more x)) e ∙ f ∙ sym e
    at x None (Some c) e f =
        let cell = allowed_mapped Monitor m x (sym (same x) ∙ mapped_allowed more x c f) in let there = cell.1 in absurd (cc)

-- ---- stores

put_bytes_local : (m other : Memory) (a : ℕ) (bs : List ℕ) (x : ℕ) → get m x ≡ get other x → get (put_bytes m a bs) x ≡ get (put_bytes other a bs) x
unfolding put_bytes
put_bytes_local m other a [] x e = e
put_bytes_local m other a (b ∷ bs) x e = put_bytes_local (put_byte m a b) (put_byte other a b) (a + 1) bs x (search (arith, nat_tests, cases_eq, get-put_byte_other, get-put_byte_same))

stored_local : (m other : Memory) (place : Transfer → ℕ) (file : List ℕ) (ts : List Transfer) (x : ℕ) → get m x ≡ get other x → get (memory_stored m place file ts) x ≡ get (memory_stored other place file ts) x
unfolding memory_stored
stored_local m other place file [] x e = e
stored_local m other place file (t ∷ ts) x e =
    let bs = chunk (place t) t.size file in
    stored_local (with_element m bs t.kind) (with_element other bs t.kind) place file ts x (search (arith, nat_tests, put_bytes_local))

-- an allowed access covers only mapped addresses
outside : (m : Memory) (a n x : ℕ) → get m x ≡ None → can_access Store m a n ≡ true → ((x < a) ⊎ (a + n ≤ x))
outside m a n x none ok = elim (cases_lt x a) [
  | inl l ↦ inl l
  | inr g ↦ elim (cases_lt x (a + n)) [
    | inl l ↦
        let e = (allowed_mapped Store m x (can_access-at Store m a n (x - a) x ok (omega arith) (omega arith))).1 in absurd (cc)
    | inr g2 ↦ inr g2
  ]
]

element_outside : (m other : Memory) (size : ℕ) (bs : List ℕ) (kind : TransferKind) (x : ℕ) → length bs ≤ size → get m x ≡ None → can_move Store m size kind ≡ true
    → get (with_element other bs kind) x ≡ get other x
element_outside m other size bs kind x short none h = search (arith, get-put_bytes_outside, outside)

stored_outside : (m other : Memory) (place : Transfer → ℕ) (file : List ℕ) (ts : List Transfer) (x : ℕ) → get m x ≡ None → are_allowed Store m ts ≡ true → get (memory_stored other place file ts) x ≡ get other x
unfolding memory_stored are_allowed
stored_outside m other place file [] x none h = refl
stored_outside m other place file (t ∷ ts) x none h =
    let parts = and_parts (can_transfer Store m t) (list_all (can_transfer Store m) ts) h in
    let bs = chunk (place t) t.size file in
    stored_outside m (with_element other bs t.kind) place file ts x none parts.1
    ∙ element_outside m other t.size bs t.kind x (omega (arith, length-take t.size (drop (place t) file))) none parts.0

-- a store to the memory with the new addresses mapped from the start leaves exactly the grown memory
pub overlay_stored : (m more : Memory) (place : Transfer → ℕ) (file : List ℕ) (ts : List Transfer) → are_allowed Store m ts ≡ true → Extends (memory_stored m place file ts) more → memory_stored (overlay m more) place file ts ≡ more
overlay_stored m more place file ts ok grown = same_memory _ _ (λ x. of_option (get m x) (λ o. get (memory_stored (overlay m more) place file ts) x ≡ get more x)
    (λ e. stored_outside m (overlay m more) place file ts x e ok ∙ get-overlay m more x ∙ ap (λ (o : Option Cell). option_or o (get more x)) e)
    (λ c e.
    let kept = (allowed_mapped Monitor (memory_stored m place file ts) x (stored_allows Monitor m place file ts x ∙ mapped_allowed m x c e)) in
    stored_local (overlay m more) m place file ts x (overlay_extends m more x c e ∙ sym e) ∙ kept.1 ∙ sym (grown x kept.0 kept.1)))

-- The result of lists of transfers for each byte: its value comes from the last transfer that covers it.
use Rattle.std.proofs.Common.{◌≡◌, ℕ, zero, suc, ◌+◌, ◌-◌, ◌<◌, ◌≤◌, Bool, true, cond, List, [], ◌∷◌, length, get_or, Option, refl, sym, ◌∙◌, ap, arith}
use Rattle.std.specs.Prelude.{All, reverse, slice_index}
use Rattle.std.specs.List.{find}
use Rattle.std.specs.Option.{option_map_or}
use Rattle.std.specs.Simd.Lanes.{chunk, put_chunk}
use Rattle.std.proofs.lemmas.Bool.{and_from, cond-false, cond-true}
use Rattle.std.proofs.lemmas.List.{reverse-append}
use Rattle.std.proofs.lemmas.List.Elements.{All-head, All-tail}
use Rattle.std.proofs.lemmas.List.Folds.{find-append}
use Rattle.std.proofs.lemmas.Simd.{get_or-chunk, length-chunk, length-put_chunk}
use Rattle.std.proofs.lemmas.Bool.Decides.{nat_tests}
use Rattle.rv_model.specs.declared.memory.Access.TheVariants.{Monitor}
use Rattle.rv_model.specs.accesses.TransferBytes.{LoadsByTransfer, StoresByTransfer}
use Rattle.rv_model.specs.accesses.Transfers.{Moved, Transfer, TransferKind, address_of, bytes_loaded, memory_stored, registers_loaded, with_element}
use Rattle.rv_model.specs.memory.Memory.{Memory, can_access_byte, is_within, memory_byte}
use Rattle.rv_model.proofs.access_lemmas.Kept.{length-bytes_loaded, put_beside}
use Rattle.rv_model.proofs.access_lemmas.Moves.{element_allows}
use Rattle.rv_model.proofs.memory_lemmas.Memory.{is_within_false, is_within_true, places, writes_bytes}

-- ---- the last match

-- in a list with an element in front: the last match in the rest, or else the element
module _ (p : Transfer → Bool) (f : Transfer → ℕ) (t : Transfer) (d : ℕ) where
  last_found : (ts : List Transfer) → option_map_or f (find p (reverse (t ∷ ts))) d ≡ option_map_or f (find p (reverse ts)) (cond (p t) (f t) d)
  last_found ts =
      ap (λ (us : List Transfer). option_map_or f (find p us) d) (reverse-append (t ∷ []) ts)
      ∙ ap (λ (o : Option Transfer). option_map_or f o d) (find-append p (reverse ts) (t ∷ []))
      ∙ (search (arith, nat_tests))

-- ---- loads

put_at : (i : ℕ) (xs ys : List ℕ) (j k : ℕ) → k ≡ i + j → j < length ys → k < length xs → get_or (put_chunk i xs ys) k 0 ≡ get_or ys j 0
put_at i [] ys j k e short inside = absurd (omega arith)
put_at zero (x ∷ xs) [] j k e short inside = absurd (omega arith)
put_at zero (x ∷ xs) (y ∷ ys) zero zero e short inside = refl
put_at zero (x ∷ xs) (y ∷ ys) zero (suc k) e short inside = absurd (omega arith)
put_at zero (x ∷ xs) (y ∷ ys) (suc j) zero e short inside = absurd (omega arith)
put_at zero (x ∷ xs) (y ∷ ys) (suc j) (suc k) e short inside = put_at zero xs ys j k (omega arith) (omega arith) (omega arith)
put_at (suc i) (x ∷ xs) ys j zero e short inside = absurd (omega arith)
put_at (suc i) (x ∷ xs) ys j (suc k) e short inside = put_at i xs ys j k (omega arith) short (omega arith)

module _ (m : Memory) (place : Transfer → ℕ) (k : ℕ) where
  abbrev covers : Transfer → Bool
  covers t = is_within (place t) t.size k

  abbrev byte_loaded : Transfer → ℕ
  byte_loaded t = slice_index (bytes_loaded m t.size t.kind) (k - place t)

  one_loaded : (t : Transfer) (file : List ℕ) → k < length file
      → slice_index (put_chunk (place t) file (bytes_loaded m t.size t.kind)) k ≡ cond (covers t) (byte_loaded t) (slice_index file k)
  one_loaded t file inside = search (arith, cond-false, cond-true, is_within_false, is_within_true, length-bytes_loaded, places, put_at, put_beside)

  byte_of_load : (ts : List Transfer) (file : List ℕ) → k < length file
      → slice_index (registers_loaded m place file ts) k ≡ option_map_or byte_loaded (find covers (reverse ts)) (slice_index file k)
  unfolding registers_loaded
  byte_of_load [] file inside = refl
  byte_of_load (t ∷ ts) file inside =
      let bytes : List ℕ = bytes_loaded m t.size t.kind in
      byte_of_load ts (put_chunk (place t) file bytes) (omega (arith, length-put_chunk (place t) file bytes, inside))
      ∙ ap (option_map_or byte_loaded (find covers (reverse ts))) (one_loaded t file inside)
      ∙ sym (last_found covers byte_loaded t (slice_index file k) ts)

pub loads_by_transfer : LoadsByTransfer
loads_by_transfer m place file ts k inside = byte_of_load m place k ts file inside

-- ---- stores

module _ (place : Transfer → ℕ) (file : List ℕ) (x : ℕ) where
  abbrev IsMoved : ℕ → ℕ → TransferKind → Type 0
  IsMoved at size kind = (kind ≡ Moved (address_of kind)) × (at + size ≤ length file)

  abbrev stores : Transfer → Bool
  stores t = is_within (address_of t.kind) t.size x

  abbrev byte_stored : Transfer → ℕ
  byte_stored t = slice_index file (place t + (x - address_of t.kind))

  one_stored : (m : Memory) (at size : ℕ) (kind : TransferKind) → IsMoved at size kind → can_access_byte Monitor m x ≡ true
      → memory_byte (with_element m (chunk at size file) kind) x
      ≡ cond (is_within (address_of kind) size x) (slice_index file (at + (x - address_of kind))) (memory_byte m x)
  one_stored m at size kind is mapped =
      search (arith, and_from, cond-false, cond-true, get_or-chunk, is_within_false, is_within_true, length-chunk, places, writes_bytes)

  byte_of_store : (ts : List Transfer) (m : Memory) → All (λ t. IsMoved (place t) t.size t.kind) ts → can_access_byte Monitor m x ≡ true
      → memory_byte (memory_stored m place file ts) x ≡ option_map_or byte_stored (find stores (reverse ts)) (memory_byte m x)
  unfolding memory_stored
  byte_of_store [] m are mapped = refl
  byte_of_store (t ∷ ts) m are mapped =
      let bytes : List ℕ = chunk (place t) t.size file in
      byte_of_store ts (with_element m bytes t.kind) (All-tail (λ u. IsMoved (place u) u.size u.kind) t ts are)
      (element_allows Monitor m bytes t.kind x ∙ mapped)
      ∙ ap (option_map_or byte_stored (find stores (reverse ts)))
      (one_stored m (place t) t.size t.kind (All-head (λ u. IsMoved (place u) u.size u.kind) t ts are) mapped)
      ∙ sym (last_found stores byte_stored t (memory_byte m x) ts)

pub stores_by_transfer : StoresByTransfer
stores_by_transfer m place file ts x are mapped = byte_of_store place file x ts m are mapped

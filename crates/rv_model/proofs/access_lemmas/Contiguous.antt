-- A load or store whose elements are contiguous moves one block of bytes.
use Rattle.std.proofs.Common.{◌≡◌, ℕ, zero, suc, ◌+◌, ◌*◌, ◌-◌, ◌<◌, ◌≤◌, ◌^◌, ◌&&◌, ◌||◌, Bool, true, cond, List, [], ◌∷◌, ◌++◌, length, map, take, drop, min, refl, sym, ◌∙◌, ap, inl, inr, arith}
use Rattle.std.specs.List.{range_with_len}
use Rattle.std.specs.Prelude.{nat_lt}
use Rattle.std.specs.Simd.Lanes.{chunk, put_chunk}
use Rattle.std.proofs.lemmas.List.{drop-drop, length-take, map-append}
use Rattle.std.proofs.lemmas.Bool.{cases_lt, le-ltb, lt-ltb}
use Rattle.std.proofs.lemmas.Nat.{mul-add-lt, mul-le}
use Rattle.std.proofs.Math.Nat.{add-mul, mod-eq_of_lt}
use Rattle.std.proofs.Math.Seq.{take-add}
use Rattle.rv_model.specs.declared.memory.Access.{Access}
use Rattle.rv_model.specs.declared.step.memory_end.MemEnd.TheVariants.{Done, Cut}
use Rattle.rv_model.specs.lending.Contiguous.{IsContiguous}
use Rattle.rv_model.specs.accesses.Transfers.{Moved, Plan, Transfer, are_allowed, registers_loaded, memory_stored, transfers}
use Rattle.rv_model.specs.accesses.VectorAccess.{VectorAccess, element_start, plan}
use Rattle.rv_model.specs.elements.Elements.{is_enabled, mask_bit}
use Rattle.rv_model.specs.memory.Memory.{Memory, bytes_at, can_access, put_bytes, memory_byte}
use Rattle.rv_model.proofs.access_lemmas.Moves.{loaded-append, loaded_none, loaded_one, stored-append, stored_none, stored_one}
use Rattle.rv_model.proofs.access_lemmas.Segments.{plan_active}
use Rattle.rv_model.proofs.access_lemmas.Stops.{AllAllowed, Stopped, stops_cut, stops_done, transfers_more}
use Rattle.rv_model.proofs.memory_lemmas.Memory.{can_access-at, can_access_from, length-bytes_at, put_bytes-append, put_no_bytes}

-- ---- lists of bytes

-- bytes written directly after other bytes
put_after : (at next : ℕ) (file xs ys : List ℕ) → next ≡ at + length xs → put_chunk next (put_chunk at file xs) ys ≡ put_chunk at file (xs ++ ys)
put_after at next [] xs ys e = refl
put_after zero next (x ∷ file) [] ys e = let same : next ≡ 0 = omega arith in ap (λ n. put_chunk n (x ∷ file) ys) same
put_after zero zero (x ∷ file) (y ∷ xs) ys e = absurd (omega arith)
put_after zero (suc next) (x ∷ file) (y ∷ xs) ys e = ap (λ bytes. y ∷ bytes) (put_after zero next file xs ys (omega arith))
put_after (suc at) zero (x ∷ file) xs ys e = absurd (omega arith)
put_after (suc at) (suc next) (x ∷ file) xs ys e = ap (λ bytes. x ∷ bytes) (put_after at next file xs ys (omega arith))

put_none : (at : ℕ) (file : List ℕ) → put_chunk at file [] ≡ file
put_none at [] = refl
put_none zero (x ∷ file) = refl
put_none (suc at) (x ∷ file) = ap (λ bytes. x ∷ bytes) (put_none at file)

-- bytes read directly after other bytes
range_after : (a next n k : ℕ) → next ≡ a + n → range_with_len a (n + k) ≡ range_with_len a n ++ range_with_len next k
range_after a next zero k e = search arith
range_after a next (suc n) k e =
    let count : suc n + k ≡ suc (n + k) = omega arith in
    ap (range_with_len a) count ∙ ap (λ xs. a ∷ xs) (range_after (a + 1) next n k (omega arith))

bytes_after : (m : Memory) (a n k : ℕ) → bytes_at m a (n + k) ≡ bytes_at m a n ++ bytes_at m (a + n) k
unfolding bytes_at
bytes_after m a n k = ap (map (memory_byte m)) (range_after a (a + n) n k refl) ∙ map-append (memory_byte m) (range_with_len a n) (range_with_len (a + n) k)

no_bytes : (m : Memory) (a : ℕ) → bytes_at m a 0 ≡ []
unfolding bytes_at
no_bytes m a = refl

chunk_after : (at n k : ℕ) (file : List ℕ) → chunk at (n + k) file ≡ chunk at n file ++ chunk (at + n) k file
chunk_after at n k file = take-add n k (drop at file) ∙ ap (λ xs. take n (drop at file) ++ take k xs) (drop-drop n at file)

-- ---- contiguous elements

-- the transfer of a single element
abbrev element : ℕ → ℕ → ℕ → Transfer
element i address size = record { index = i; field = 0; size = size; kind = Moved address }

module _ (a : VectorAccess) (fill : Bool) (start n address : ℕ) (c : IsContiguous a start n address) where
  no_wrap : (k : ℕ) → k < n → address + k * a.size < 2 ^ 64
  no_wrap k h = omega (arith, c.end, mul-le k a.size n a.size (omega (arith, h)) (omega arith))

  is_enabled_all : (i : ℕ) → is_enabled a.body i ≡ true
  is_enabled_all i = ap (λ b. b || mask_bit a.body.mask i) c.unmasked

  -- each index moves its element
  element_moved : (k : ℕ) → k < n → plan a fill (start + k) ≡ element (start + k) (address + k * a.size) a.size ∷ []
  element_moved k h = search (arith, is_enabled_all, mod-eq_of_lt, no_wrap, plan_active)

  -- the transfers of the first k indices
  abbrev so_far : ℕ → List Transfer
  so_far k = transfers (plan a fill) start k

  no_index : so_far 0 ≡ []
  unfolding transfers
  no_index = refl

  index_more : (k : ℕ) → k < n → so_far (suc k) ≡ so_far k ++ element (start + k) (address + k * a.size) a.size ∷ []
  index_more k h =
      ap so_far (omega arith) ∙ transfers_more (plan a fill) start (start + k) (omega arith)
      ∙ ap (λ x. so_far x ++ plan a fill (start + k)) (omega arith) ∙ ap (λ ts. so_far k ++ ts) (element_moved k h)

  -- ---- allowed transfers

  pub block_allowed : (access : Access) (m : Memory) → can_access access m address (n * a.size) ≡ true → AllAllowed access m (plan a fill) start (start + n)
  unfolding are_allowed
  block_allowed access m all i low high =
      let less : (i - start) < n = omega (arith, low, high) in
      let one : can_access access m (address + (i - start) * a.size) a.size ≡ true =
      can_access_from access m (address + (i - start) * a.size) a.size
      (λ j l. can_access-at access m address (n * a.size) ((i - start) * a.size + j) (address + (i - start) * a.size + j) all
      (omega (arith, mul-add-lt (i - start) a.size j n less l)) (omega arith)) in
      ap (λ x. are_allowed access m (plan a fill x)) (sym (omega (arith, low))) ∙ ap (are_allowed access m) (element_moved (i - start) less) ∙ ap (λ b. b && true) one

  -- ---- results

  element_place : (k x : ℕ) → element_start a (element (start + k) x a.size) ≡ element_start a (element start address a.size) + k * a.size
  element_place k x = omega (arith, add-mul start k a.size)

  -- the registers after the first k indices of a load
  module _ (m : Memory) (file : List ℕ) where
    loaded_so_far : (k : ℕ) → k ≤ n
        → registers_loaded m (element_start a) file (so_far k) ≡ put_chunk (element_start a (element start address a.size)) file (bytes_at m address (k * a.size))
    loaded_so_far zero h =
        let none : 0 * a.size ≡ 0 = omega arith in
        ap (registers_loaded m (element_start a) file) no_index ∙ loaded_none m (element_start a) file
        ∙ sym (ap (λ x. put_chunk (element_start a (element start address a.size)) file (bytes_at m address x)) none
        ∙ ap (put_chunk (element_start a (element start address a.size)) file) (no_bytes m address)
        ∙ put_none (element_start a (element start address a.size)) file)
    loaded_so_far (suc k) h =
        let at : ℕ = element_start a (element start address a.size) in
        let t = element (start + k) (address + k * a.size) a.size in
        let before = bytes_at m address (k * a.size) in
        let count : suc k * a.size ≡ k * a.size + a.size = omega arith in
        ap (registers_loaded m (element_start a) file) (index_more k (omega arith))
        ∙ loaded-append m (element_start a) file (so_far k) (t ∷ [])
        ∙ loaded_one m (element_start a) (registers_loaded m (element_start a) file (so_far k)) t
        ∙ ap (λ xs. put_chunk (element_start a t) xs (bytes_at m (address + k * a.size) a.size)) (loaded_so_far k (omega arith))
        ∙ put_after at (element_start a t) file before (bytes_at m (address + k * a.size) a.size)
        (element_place k (address + k * a.size) ∙ ap (λ x. at + x) (sym (length-bytes_at m address (k * a.size))))
        ∙ ap (put_chunk at file) (sym (ap (bytes_at m address) count ∙ bytes_after m address (k * a.size) a.size))

    pub block_loaded : registers_loaded m (element_start a) file (transfers (plan a fill) start n)
        ≡ put_chunk (element_start a (element start address a.size)) file (bytes_at m address (n * a.size))
    block_loaded = loaded_so_far n (omega arith)

    -- the memory after the first k indices of a store
    stored_so_far : length (chunk (element_start a (element start address a.size)) (n * a.size) file) ≡ n * a.size → (k : ℕ) → k ≤ n
        → memory_stored m (element_start a) file (so_far k) ≡ put_bytes m address (chunk (element_start a (element start address a.size)) (k * a.size) file)
    stored_so_far whole zero h =
        let none : 0 * a.size ≡ 0 = omega arith in
        ap (memory_stored m (element_start a) file) no_index ∙ stored_none m (element_start a) file
        ∙ sym (ap (λ x. put_bytes m address (chunk (element_start a (element start address a.size)) x file)) none ∙ put_no_bytes m address)
    stored_so_far whole (suc k) h =
        let at : ℕ = element_start a (element start address a.size) in
        let t = element (start + k) (address + k * a.size) a.size in
        let count : suc k * a.size ≡ k * a.size + a.size = omega arith in
        let before = chunk at (k * a.size) file in
        let most : k * a.size ≤ n * a.size = mul-le k a.size n a.size (omega (arith, h)) (omega arith) in
        let size : length before ≡ k * a.size = omega (arith, length-take (k * a.size) (drop at file), length-take (n * a.size) (drop at file), whole, most) in
        ap (memory_stored m (element_start a) file) (index_more k (omega arith))
        ∙ stored-append m (element_start a) file (so_far k) (t ∷ [])
        ∙ stored_one (memory_stored m (element_start a) file (so_far k)) (element_start a) file t
        ∙ ap (λ x. put_bytes x (address + k * a.size) (chunk (element_start a t) a.size file)) (stored_so_far whole k (omega arith))
        ∙ ap (λ x. put_bytes (put_bytes m address before) (address + k * a.size) (chunk x a.size file)) (element_place k (address + k * a.size))
        ∙ ap (λ x. put_bytes (put_bytes m address before) (address + x) (chunk (at + k * a.size) a.size file)) (sym size)
        ∙ sym (ap (λ x. put_bytes m address (chunk at x file)) count
        ∙ ap (put_bytes m address) (chunk_after at (k * a.size) a.size file)
        ∙ put_bytes-append m address before (chunk (at + k * a.size) a.size file))

    pub block_stored : length (chunk (element_start a (element start address a.size)) (n * a.size) file) ≡ n * a.size
        → memory_stored m (element_start a) file (transfers (plan a fill) start n)
        ≡ put_bytes m address (chunk (element_start a (element start address a.size)) (n * a.size) file)
    block_stored whole = stored_so_far whole n (omega arith)

-- ---- the end of an instruction without a fault

pub stops_all : (access : Access) (m : Memory) (each : Plan) (i limit n stop : ℕ) → stop ≡ min n limit → i ≤ limit → AllAllowed access m each i stop
    → Stopped access m each i limit n stop (cond (nat_lt stop n) (Cut stop) Done)
stops_all access m each i limit n stop e low all = elim (cases_lt stop n) [
  | inl less ↦
      let at : limit ≡ stop = omega (arith, e, less) in
      let s = stops_cut access m each i limit n low (omega (arith, at, less)) (λ k l h. all k l (omega (arith, h, at))) in
      record {
        done = s.done ∙ ap (λ x. transfers each i (x - i)) at;
        end = s.end ∙ ap Cut at ∙ sym (ap (λ b. cond b (Cut stop) Done) (lt-ltb stop n less));
      }
  | inr most ↦
      let at : stop ≡ n = omega (arith, e, most) in
      let s = stops_done access m each i limit n (omega (arith, e, at)) (λ k l h. all k l (omega (arith, h, at))) in
      record {
        done = s.done ∙ ap (λ x. transfers each i (x - i)) (sym at);
        end = s.end ∙ sym (ap (λ b. cond b (Cut stop) Done) (le-ltb stop n most));
      }
]

-- Registers that an interrupted vector load leaves unchanged: the mask, and the bytes that none of its transfers covers.
use Rattle.std.proofs.Common.{◌≡◌, ℕ, zero, suc, ◌+◌, ◌-◌, ◌*◌, ◌<◌, ◌≤◌, ◌⊎◌, inl, inr, Bool, true, false, ◌||◌, cond, List, [], ◌∷◌, ◌++◌, length, map, min, drop, get_or, refl, sym, ◌∙◌, ap, arith, length-take, length-drop}
use Rattle.std.specs.List.{AllByRecursion, range_with_len}
use Rattle.std.specs.Simd.Lanes.{chunk, put_chunk}
use Rattle.std.proofs.Math.Nat.{mul_comm}
use Rattle.std.proofs.lemmas.List.{ext_get_or, length-replicate}
use Rattle.std.proofs.lemmas.Nat.{row_fits}
use Rattle.std.proofs.lemmas.Simd.{get_or-chunk, get_or-put_chunk_above, get_or-put_chunk_below, length-put_chunk}
use Rattle.std.proofs.lemmas.Bool.Decides.{nat_tests}
use lib.Lanes.{number_l}
use Rattle.rv_model.specs.declared.vector.sizes.TheConstants.{VLENB}
use Rattle.rv_model.specs.accesses.Transfers.{Plan, Transfer, TransferKind, bytes_loaded, registers_loaded, transfers}
use Rattle.rv_model.specs.accesses.VectorAccess.{VectorAccess, filled_segment, element_start, plan, moved_segment}
use Rattle.rv_model.specs.elements.Arithmetic.{group_element}
use Rattle.rv_model.specs.vector.Groups.{GroupType, width_bytes, register_of, registers}
use Rattle.rv_model.specs.elements.Elements.{is_enabled, mask_bit}
use Rattle.rv_model.specs.memory.Memory.{Memory}
use Rattle.rv_model.proofs.access_lemmas.Segments.{field_transfer, filled_transfer}
use Rattle.rv_model.proofs.memory_lemmas.Memory.{length-bytes_at}

-- ---- transfers that miss a byte

-- byte b is outside the `size` bytes from `at` on
abbrev pub Beside : ℕ → ℕ → ℕ → Type 0
Beside b at size = (b < at) ⊎ (at + size ≤ b)

abbrev pub Misses : (Transfer → ℕ) → ℕ → Transfer → Type 0
Misses place b t = Beside b (place t) t.size

pub put_beside : (file : List ℕ) (at : ℕ) (bytes : List ℕ) (b : ℕ) → Beside b at (length bytes) → get_or (put_chunk at file bytes) b 0 ≡ get_or file b 0
put_beside file at bytes b h = search (arith, nat_tests, get_or-put_chunk_above, get_or-put_chunk_below)

pub length-bytes_loaded : (m : Memory) (size : ℕ) (kind : TransferKind) → length (bytes_loaded m size kind) ≡ size
length-bytes_loaded m size kind = search (arith, nat_tests, length-bytes_at, length-replicate)

module _ (m : Memory) (place : Transfer → ℕ) where
  pub missed : (b : ℕ) (ts : List Transfer) (file : List ℕ) → AllByRecursion (Misses place b) ts → get_or (registers_loaded m place file ts) b 0 ≡ get_or file b 0
  unfolding registers_loaded
  missed b [] file h = refl
  missed b (t ∷ ts) file h =
      let bytes : List ℕ = bytes_loaded m t.size t.kind in
      let long : length bytes ≡ t.size = length-bytes_loaded m t.size t.kind in
      missed b ts (put_chunk (place t) file bytes) h.1 ∙ put_beside file (place t) bytes b (elim h.0 [ inl l ↦ inl l | inr g ↦ inr (omega arith) ])

  pub length-loaded : (ts : List Transfer) (file : List ℕ) → length (registers_loaded m place file ts) ≡ length file
  unfolding registers_loaded
  length-loaded [] file = refl
  length-loaded (t ∷ ts) file =
      length-loaded ts (put_chunk (place t) file (bytes_loaded m t.size t.kind)) ∙ length-put_chunk (place t) file (bytes_loaded m t.size t.kind)

-- ---- the transfers of an access

all_append : (P : Transfer → Type 0) (xs ys : List Transfer) → AllByRecursion P xs → AllByRecursion P ys → AllByRecursion P (xs ++ ys)
all_append P [] ys h g = g
all_append P (x ∷ xs) ys h g = (h.0, all_append P xs ys h.1 g)

pub all_transfers : (P : Transfer → Type 0) (each : Plan) (i n : ℕ) → ((k : ℕ) → i ≤ k → k < i + n → AllByRecursion P (each k)) → AllByRecursion P (transfers each i n)
unfolding transfers
all_transfers P each i zero h = tt
all_transfers P each i (suc n) h = search (arith, all_append, all_transfers P each (i + 1) n (λ k l g. h k (omega arith) (omega arith)))

-- the transfers of index i have this index, a field below n and this size
abbrev IsOf : ℕ → ℕ → ℕ → Transfer → Type 0
IsOf i size n t = (t.index ≡ i) × (t.field < n) × (t.size ≡ size)

all_fields : (P : Transfer → Type 0) (make : ℕ → Transfer) (i size a n : ℕ) → ((f : ℕ) → (make f).index ≡ i × (make f).field ≡ f × (make f).size ≡ size)
    → ((t : Transfer) → IsOf i size (a + n) t → P t) → AllByRecursion P (map make (range_with_len a n))
all_fields P make i size a zero is h = tt
all_fields P make i size a (suc n) is h = search (arith, all_fields P make i size (a + 1) n is (λ t x. h t (x.0, omega (arith, x.1), x.2)))

all_planned : (P : Transfer → Type 0) (a : VectorAccess) (fill : Bool) (i : ℕ) → ((t : Transfer) → IsOf i a.size a.fields t → P t) → AllByRecursion P (plan a fill i)
unfolding plan
all_planned P a fill i h =
    elim (is_enabled a.body i) as (λ b. AllByRecursion P (cond b (moved_segment i (a.address i) a.size a.fields) (cond fill (filled_segment i a.size a.fields) []))) [
      | true ↦ all_fields P (field_transfer i (a.address i) a.size) i a.size 0 a.fields (λ f. (refl, refl, refl)) (λ t x. h t (x.0, omega (arith, x.1), x.2))
      | false ↦ elim fill as (λ c. AllByRecursion P (cond c (filled_segment i a.size a.fields) [])) [
        | true ↦ all_fields P (filled_transfer i a.size) i a.size 0 a.fields (λ f. (refl, refl, refl)) (λ t x. h t (x.0, omega (arith, x.1), x.2))
        | false ↦ tt
      ]
    ]

-- ---- bytes that a load up to an index leaves unchanged

-- the start of an element of a field, as a byte index into the register file
abbrev pub element_place : VectorAccess → ℕ → ℕ → ℕ
element_place a field i = VLENB * (a.register + field * a.field_registers) + i * a.size

-- the registers after the transfers up to an index
abbrev pub loaded_to : Memory → VectorAccess → Bool → List ℕ → ℕ → List ℕ
loaded_to m a fill file stop = registers_loaded m (element_start a) file (transfers (plan a fill) a.body.start (stop - a.body.start))

-- the transfers up to an index miss a byte that their elements miss
pub all_missed : (a : VectorAccess) (fill : Bool) (stop b : ℕ) → ((field i : ℕ) → field < a.fields → i < stop → Beside b (element_place a field i) a.size)
    → AllByRecursion (Misses (element_start a) b) (transfers (plan a fill) a.body.start (stop - a.body.start))
all_missed a fill stop b beside =
    all_transfers (Misses (element_start a) b) (plan a fill) a.body.start (stop - a.body.start)
    (λ i low high. all_planned (Misses (element_start a) b) a fill i (λ t is. of t i is (omega (arith, low, high))))
  where
    of : (t : Transfer) (i : ℕ) → IsOf i a.size a.fields t → i < stop → Misses (element_start a) b t
    of t i is l =
        let at : element_start a t ≡ element_place a t.field i = ap (λ (n : ℕ). VLENB * (a.register + t.field * a.field_registers) + n * a.size) is.0 in
        elim (beside t.field i is.1 l) [ inl below ↦ inl (omega (arith, at, below)) | inr above ↦ inr (omega (arith, at, above, is.2)) ]

module _ (m : Memory) (a : VectorAccess) (fill : Bool) (file : List ℕ) (stop : ℕ) where
  pub byte_kept : (b : ℕ) → ((field i : ℕ) → field < a.fields → i < stop → Beside b (element_place a field i) a.size)
      → get_or (loaded_to m a fill file stop) b 0 ≡ get_or file b 0
  byte_kept b beside = missed m (element_start a) b _ file (all_missed a fill stop b beside)

  pub length_kept : length (loaded_to m a fill file stop) ≡ length file
  length_kept = length-loaded m (element_start a) (transfers (plan a fill) a.body.start (stop - a.body.start)) file

-- ---- parts of lists with the same bytes

same_chunk : (at n : ℕ) (xs ys : List ℕ) → length xs ≡ length ys → ((b : ℕ) → at ≤ b → b < at + n → get_or xs b 0 ≡ get_or ys b 0) → chunk at n xs ≡ chunk at n ys
same_chunk at n xs ys e h =
    ext_get_or 0 (chunk at n xs) (chunk at n ys)
    (length-take n (drop at xs) ∙ ap (λ (k : ℕ). min n k) (length-drop at xs ∙ ap (λ (k : ℕ). k - at) e ∙ sym (length-drop at ys)) ∙ sym (length-take n (drop at ys)))
    (λ j l.
    let short : j < n = omega (arith, length-take n (drop at xs), l) in
    get_or-chunk at n xs j 0 short ∙ h (at + j) (omega arith) (omega (arith, short)) ∙ sym (get_or-chunk at n ys j 0 short))

length_chunk_same : (at n : ℕ) (xs ys : List ℕ) → length xs ≡ length ys → length (chunk at n xs) ≡ length (chunk at n ys)
length_chunk_same at n xs ys e =
    length-take n (drop at xs) ∙ ap (λ (k : ℕ). min n k) (length-drop at xs ∙ ap (λ (k : ℕ). k - at) e ∙ sym (length-drop at ys))
    ∙ sym (length-take n (drop at ys))

-- a load whose destination starts above v0 leaves v0 unchanged
pub mask_kept : (m : Memory) (a : VectorAccess) (fill : Bool) (file : List ℕ) (stop : ℕ) → 1 ≤ a.register
    → register_of (loaded_to m a fill file stop) 0 ≡ register_of file 0
unfolding register_of
mask_kept m a fill file stop above =
    same_chunk 0 32 (loaded_to m a fill file stop) file (length_kept m a fill file stop)
    (λ b low high. byte_kept m a fill file stop b (λ field i f g. inl (omega (arith, above, high))))

-- an element of a group is unchanged if all its bytes are
pub element_kept : (g : GroupType) (first i count : ℕ) (xs ys : List ℕ) → length xs ≡ length ys → i < count → width_bytes g.width * count ≤ VLENB * registers g.emul
    → ((b : ℕ) → VLENB * first + i * width_bytes g.width ≤ b → b < VLENB * first + i * width_bytes g.width + width_bytes g.width → get_or xs b 0 ≡ get_or ys b 0)
    → group_element g xs first i ≡ group_element g ys first i
element_kept g first i count xs ys e l room h =
    ap (number_l 256) (same_chunk (k * i) k (chunk at n xs) (chunk at n ys) (length_chunk_same at n xs ys e)
    (λ b low high.
    let inside : b < n = omega (arith, low, high, turned, counted, room, row_fits i k count k l (omega arith)) in
    get_or-chunk at n xs b 0 inside ∙ h (at + b) (omega (arith, low, turned)) (omega (arith, high, turned)) ∙ sym (get_or-chunk at n ys b 0 inside)))
  where
    k : ℕ
    k = width_bytes g.width

    at : ℕ
    at = VLENB * first

    n : ℕ
    n = VLENB * registers g.emul

    turned : k * i ≡ i * k
    turned = mul_comm k i

    counted : k * count ≡ count * k
    counted = mul_comm k count

-- ---- unchanged plans

-- two masks enable the same elements if they are equal or the instruction is unmasked
pub let_kept : (unmasked : Bool) (mask other : List ℕ) (i : ℕ) → (unmasked ≡ false → mask ≡ other) → (unmasked || mask_bit mask i) ≡ (unmasked || mask_bit other i)
let_kept unmasked mask other i h = search (arith, nat_tests)

pub plan_same : (a b : VectorAccess) (fill : Bool) (i : ℕ) → is_enabled b.body i ≡ is_enabled a.body i → b.address i ≡ a.address i → b.size ≡ a.size → b.fields ≡ a.fields
    → plan b fill i ≡ plan a fill i
unfolding plan
plan_same a b fill i lets address size fields = search

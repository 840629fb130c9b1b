-- The bytes of a span as bytes of a memory, and where an instruction that moves a span stops.
use Rattle.std.proofs.Common.{◌≡◌, ℕ, zero, suc, ◌+◌, ◌-◌, ◌*◌, ◌<◌, ◌≤◌, ◌%◌, ◌^◌, Bool, true, false, cond, List, [], ◌++◌, ap₂, length, drop, get_or, min, take, Option, Some, None, refl, sym, ap, ◌∙◌, add-zero, inl, inr, arith}
use Rattle.std.specs.FinMap.{get}
use Rattle.std.specs.Prelude.{nat_lt, if◌then◌else◌}
use Rattle.std.specs.Simd.Lanes.{chunk, put_chunk}
use Rattle.std.proofs.lemmas.Bool.{cases_Bool, cases_lt}
use Rattle.std.proofs.lemmas.Nat.{mul-le}
use Rattle.std.proofs.lemmas.Simd.{get_or-chunk, get_or-put_chunk_above, get_or-put_chunk_at, get_or-put_chunk_below, length-chunk, length-put_chunk, put_chunk_is}
use borrow.Rule.Slice.PartMut.{put_mid}
use Rattle.std.proofs.Math.Nat.{mod-eq_of_lt, mul_comm}
use Rattle.rv_model.specs.declared.vector.sizes.TheConstants.{FILE_BYTES, VLENB}
use Rattle.rv_model.specs.declared.memory.Access.{Access}
use Rattle.rv_model.specs.declared.step.memory_end.MemEnd.TheVariants.{Cut, Done}
use Rattle.rv_model.specs.accesses.Transfers.{Plan, are_allowed, memory_stored, registers_loaded, transfers}
use Rattle.rv_model.specs.accesses.VectorAccess.{filled_segment, moved_segment, plan}
use Rattle.rv_model.specs.elements.Elements.{Body, is_enabled}
use Rattle.rv_model.specs.memory.Memory.{Cell, Memory, bytes_at, can_access, put_bytes, memory_byte}
use Rattle.rv_model.proofs.access_lemmas.Contiguous.{stops_all}
use Rattle.rv_model.proofs.access_lemmas.Moves.{allowed_none}
use Rattle.rv_model.proofs.access_lemmas.Segments.{allowed_more, filled_allowed, plan_active, plan_filled, plan_kept}
use Rattle.rv_model.proofs.access_lemmas.Stops.{AllAllowed, Stopped}
use Rattle.rv_model.proofs.memory_lemmas.Memory.{bytes_read, can_access-at, can_access_from, get-put_bytes_outside, get-put_bytes_within, get_or-bytes_at, length-bytes_at, same_memory, with_byte}
use Rattle.vector_memory.specs.FieldOrder.{field_address}
use Rattle.vector_memory.specs.SegmentRoom.{place_in, segments_access}
use Rattle.vector_memory.specs.SpanAccess.{IsSpanOf, span_access, span_transfers}
use Rattle.vector_memory.specs.declared.segments.Segments.{Segments}
use Rattle.vector_memory.specs.declared.spans.Span.{Span}

-- ---- parts of lists of bytes

-- a part that is extracted
pub part_at : (at to n : ℕ) (xs : List ℕ) → at ≡ to → take ((at + n) - at) (drop at xs) ≡ chunk to n xs
part_at at to n xs same = let count : (at + n) - at ≡ n = omega arith in ap (λ k. take k (drop at xs)) count ∙ ap (λ k. chunk k n xs) same

-- a part that is replaced
pub part_put : (at k to : ℕ) (xs ys : List ℕ) → k ≡ length ys → at ≡ to → to + length ys ≤ length xs → put_mid at k xs ys ≡ put_chunk to xs ys
part_put at k to xs ys e same h = ap (λ n. put_mid n k xs ys) same ∙ ap (λ n. put_mid to n xs ys) e ∙ sym (put_chunk_is to xs ys h)

-- ---- bytes of a memory

-- a part of the bytes that are read
pub part_read : (m : Memory) (a n k count : ℕ) → k + count ≤ n → chunk k count (bytes_at m a n) ≡ bytes_at m (a + k) count
part_read m a n k count h =
    let whole : length (bytes_at m a n) ≡ n = length-bytes_at m a n in
    bytes_read m (a + k) count (chunk k count (bytes_at m a n)) (length-chunk k count (bytes_at m a n) (omega (arith, whole, h)))
    (λ j l.
    let at : (a + k) + j ≡ a + (k + j) = omega arith in
    get_or-chunk k count (bytes_at m a n) j 0 l ∙ get_or-bytes_at m a n (k + j) ((a + k) + j) (omega (arith, h, l)) at)

same_byte : (o : Option Cell) (b : ℕ) → ((c : Cell) → o ≡ Some c → b ≡ c.byte) → with_byte b o ≡ o
same_byte None b h = refl
same_byte (Some c) b h = ap (λ x. Some (record { byte = x; permissions = c.permissions })) (h c refl)

byte_there : (m : Memory) (x : ℕ) (c : Cell) → get m x ≡ Some c → memory_byte m x ≡ c.byte
unfolding memory_byte
byte_there m x c h = rw h refl

-- writing back the bytes that were read changes nothing
pub put_read : (m : Memory) (a n : ℕ) → put_bytes m a (bytes_at m a n) ≡ m
put_read m a n =
    let bs : List ℕ = bytes_at m a n in
    let whole : length bs ≡ n = length-bytes_at m a n in
    same_memory (put_bytes m a bs) m
    (λ x. elim (cases_lt x a) [
      | inl below ↦ get-put_bytes_outside m a bs x (inl below)
      | inr from ↦ elim (cases_lt x (a + n)) [
        | inr above ↦ get-put_bytes_outside m a bs x (inr (omega (arith, whole, above)))
        | inl inside ↦
            let at : x ≡ a + (x - a) = omega (arith, from) in
            let less : x - a < n = omega (arith, from, inside) in
            get-put_bytes_within m a bs (x - a) x (omega (arith, less, whole)) at
            ∙ same_byte (get m x) (get_or bs (x - a) 0) (λ c is. get_or-bytes_at m a n (x - a) x less at ∙ byte_there m x c is)
      ]
    ])

twice : (o : Option Cell) (b c : ℕ) → with_byte c (with_byte b o) ≡ with_byte c o
twice None b c = refl
twice (Some x) b c = refl

-- a write, then a write inside it
pub put_part : (m : Memory) (a k : ℕ) (bs xs : List ℕ) → k + length xs ≤ length bs
    → put_bytes m a (put_chunk k bs xs) ≡ put_bytes (put_bytes m a bs) (a + k) xs
put_part m a k bs xs room = same_memory (put_bytes m a new) (put_bytes old (a + k) xs) (λ x. elim (cases_lt x a) [
  | inl below ↦
      get-put_bytes_outside m a new x (inl below) ∙ sym (get-put_bytes_outside m a bs x (inl below))
      ∙ sym (get-put_bytes_outside old (a + k) xs x (inl (omega (arith, below))))
  | inr from ↦ elim (cases_lt x (a + length bs)) [
    | inr above ↦
        get-put_bytes_outside m a new x (inr (omega (arith, same, above))) ∙ sym (get-put_bytes_outside m a bs x (inr above))
        ∙ sym (get-put_bytes_outside old (a + k) xs x (inr (omega (arith, room, above))))
    | inl inside ↦
        let at : x ≡ a + (x - a) = omega (arith, from) in
        let less : x - a < length bs = omega (arith, from, inside) in
        let now = get-put_bytes_within m a new (x - a) x (omega (arith, less, same)) at in
        let before = get-put_bytes_within m a bs (x - a) x less at in
        elim (cases_lt (x - a) k) [
          | inl low ↦
              now ∙ ap (λ b. with_byte b (get m x)) (get_or-put_chunk_below k bs xs (x - a) 0 low)
              ∙ sym before ∙ sym (get-put_bytes_outside old (a + k) xs x (inl (omega (arith, low, from))))
          | inr high ↦ elim (cases_lt (x - a) (k + length xs)) [
            | inr past ↦
                now ∙ ap (λ b. with_byte b (get m x)) (get_or-put_chunk_above k bs xs (x - a) 0 past)
                ∙ sym before ∙ sym (get-put_bytes_outside old (a + k) xs x (inr (omega (arith, past, from))))
            | inl within ↦
                let j : ℕ = (x - a) - k in
                let there : x - a ≡ k + j = omega (arith, high) in
                now ∙ ap (λ i. with_byte (get_or new i 0) (get m x)) there
                ∙ ap (λ b. with_byte b (get m x)) (get_or-put_chunk_at k bs xs j 0 (omega (arith, within, high)) room)
                ∙ sym (twice (get m x) (get_or bs (x - a) 0) (get_or xs j 0))
                ∙ sym (ap (with_byte (get_or xs j 0)) before)
                ∙ sym (get-put_bytes_within old (a + k) xs j x (omega (arith, within, high)) (omega (arith, from, high)))
          ]
        ]
  ]
])
  where
    new : List ℕ
    new = put_chunk k bs xs

    old : Memory
    old = put_bytes m a bs

    same : length new ≡ length bs
    same = length-put_chunk k bs xs

-- ---- permissions

pub part_allowed : (access : Access) (m : Memory) (a n k count x : ℕ) → can_access access m a n ≡ true → k + count ≤ n → x ≡ a + k → can_access access m x count ≡ true
part_allowed access m a n k count x all h at =
    can_access_from access m x count (λ j l. can_access-at access m a n (k + j) (x + j) all (omega (arith, h, l)) (omega (arith, at)))

pub no_field : (access : Access) (m : Memory) (i x size : ℕ) → are_allowed access m (moved_segment i x size 0) ≡ true
unfolding are_allowed
no_field access m i x size = refl

fields_allowed : (access : Access) (m : Memory) (a n i x size : ℕ) → can_access access m a n ≡ true → a ≤ x → a + n < 2 ^ 64
    → (fields : ℕ) → x + fields * size ≤ a + n → are_allowed access m (moved_segment i x size fields) ≡ true
fields_allowed access m a n i x size all low end zero room = no_field access m i x size
fields_allowed access m a n i x size all low end (suc f) room =
    let more : suc f * size ≡ f * size + size = omega arith in
    let count : suc f ≡ f + 1 = omega arith in
    let same : (x + f * size) % 2 ^ 64 ≡ x + f * size = mod-eq_of_lt (omega (arith, end, more, room, low)) in
    ap (λ k. are_allowed access m (moved_segment i x size k)) count
    ∙ allowed_more access m i x size f (fields_allowed access m a n i x size all low end f (omega (arith, more, room)))
    (ap (λ y. can_access access m y size) same
    ∙ part_allowed access m a n ((x + f * size) - a) size (x + f * size) all (omega (arith, more, room, low)) (omega (arith, low)))

module _ (b : Span) where
  -- a field of an index is inside the span
  pub field_inside : (i f : ℕ) → b.body.start ≤ i → i < b.stop → f < b.segments.fields
      → (i - b.body.start) * b.distance + f * b.segments.size + b.segments.size ≤ b.length
  field_inside i f low high some =
      omega (arith, b.span.inside (i - b.body.start) (omega (arith, low, high)), mul-le (f + 1) b.segments.size b.segments.fields b.segments.size (omega (arith, some)) (omega arith))

  -- the registers have room for a field from its first element on
  pub field_room : (n f start first : ℕ) → b.body.start + n < b.stop → f < b.segments.fields → start ≡ b.body.start
      → first ≡ VLENB * (b.segments.register + f * b.segments.field_registers) + start * b.segments.size
      → first + (n * b.segments.size + b.segments.size) ≤ FILE_BYTES
  field_room n f start first high some same place =
      let s = b.segments in
      omega (
        arith,
        place,
        ap (λ x. x * s.size) same,
        b.span.room.inside,
        b.span.room.room,
        mul_comm s.size b.stop,
        mul-le (b.body.start + n + 1) s.size b.stop s.size (omega (arith, high)) (omega arith),
        mul-le (f + 1) s.field_registers s.fields s.field_registers (omega (arith, some)) (omega arith),
      )

  pub field_begins : (i f : ℕ) → b.body.start ≤ i → i < b.stop → f < b.segments.fields
      → field_address (span_access b) f i ≡ b.address + ((i - b.body.start) * b.distance + f * b.segments.size)
  field_begins i f low high some = mod-eq_of_lt (omega (arith, field_inside i f low high some, b.span.end)) ∙ omega arith

  -- the bytes of a field, from the bytes of the span
  pub field_read : (m : Memory) (bytes : List ℕ) (i f : ℕ) → b.body.start ≤ i → i < b.stop → f < b.segments.fields → bytes ≡ bytes_at m b.address b.length
      → chunk ((i - b.body.start) * b.distance + f * b.segments.size) b.segments.size bytes ≡ bytes_at m (field_address (span_access b) f i) b.segments.size
  field_read m bytes i f low high some read =
      let at : ℕ = (i - b.body.start) * b.distance + f * b.segments.size in
      ap (chunk at b.segments.size) read ∙ part_read m b.address b.length at b.segments.size (field_inside i f low high some)
      ∙ ap (λ x. bytes_at m x b.segments.size) (sym (field_begins i f low high some))

  -- a field of an index is before each earlier field of a later index
  pub fields_apart : (f h i j : ℕ) → h < f → f < b.segments.fields → b.body.start ≤ i → i < j → j < b.stop
      → field_address (span_access b) f i + b.segments.size ≤ field_address (span_access b) h j
  fields_apart f h i j less some from order end =
      let before : (i - b.body.start) * b.distance + b.distance ≤ (j - b.body.start) * b.distance =
      omega (arith, mul-le ((i - b.body.start) + 1) b.distance (j - b.body.start) b.distance (omega (arith, from, order)) (omega arith)) in
      omega (
        arith,
        field_begins i f from (omega (arith, order, end)) some,
        field_begins j h (omega (arith, from, order)) end (omega (arith, less, some)),
        before,
        b.span.apart,
        mul-le (f + 1) b.segments.size b.segments.fields b.segments.size (omega (arith, some)) (omega arith),
      )

  span_allowed : (fill : Bool) (access : Access) (m : Memory) → can_access access m b.address b.length ≡ true
      → AllAllowed access m (plan (span_access b) fill) b.body.start b.stop
  span_allowed fill access m all i low high = elim (cases_Bool (is_enabled b.body i)) [
    | inl active ↦
        let room = b.span.inside (i - b.body.start) (omega (arith, low, high)) in
        ap (are_allowed access m) (plan_active (span_access b) fill i active)
        ∙ fields_allowed access m b.address b.length i (b.address + (i - b.body.start) * b.distance) b.segments.size all (omega arith) b.span.end b.segments.fields (omega (arith, room))
    | inr off ↦ elim (cases_Bool fill) [
      | inl filled ↦ ap (are_allowed access m) (plan_filled (span_access b) fill i off filled) ∙ filled_allowed access m i b.segments.size b.segments.fields
      | inr kept ↦ ap (are_allowed access m) (plan_kept (span_access b) fill i off kept) ∙ allowed_none access m
    ]
  ]

-- ---- the access of a span

same_transfers : (each other : Plan) (i n : ℕ) → ((k : ℕ) → k < n → each (i + k) ≡ other (i + k)) → transfers each i n ≡ transfers other i n
unfolding transfers
same_transfers each other i zero h = refl
same_transfers each other i (suc n) h =
    let first : each i ≡ other i = ap each (sym (add-zero i)) ∙ h 0 (omega arith) ∙ ap other (add-zero i) in
    ap₂ (λ xs ys. xs ++ ys) first
    (same_transfers each other (i + 1) n (λ k less.
    let at : (i + 1) + k ≡ i + (k + 1) = omega arith in
    ap each at ∙ h (k + 1) (omega (arith, less)) ∙ ap other (sym at)))

-- the transfers of an index depend only on its address
at_address : (s : Segments) (body : Body) (f g : ℕ → ℕ) (fill : Bool) (i : ℕ) → f i ≡ g i
    → plan (segments_access s body f) fill i ≡ plan (segments_access s body g) fill i
unfolding plan
at_address s body f g fill i e =
    ap (λ x. if is_enabled body i then moved_segment i x s.size s.fields else if fill then filled_segment i s.size s.fields else []) e

module _ (s : Segments) (body : Body) (address : ℕ → ℕ) (stop : ℕ) (b : Span) (is : IsSpanOf s body address stop b) where
  same_plan : (fill : Bool) (i : ℕ) → body.start ≤ i → i < stop → plan (segments_access s body address) fill i ≡ plan (span_access b) fill i
  same_plan fill i low high =
      let at : body.start + (i - body.start) ≡ i = omega (arith, low) in
      at_address s body address (λ i. b.address + (i - body.start) * b.distance) fill i
      (ap address (sym at) ∙ is.begins (i - body.start) (omega (arith, low, high)))
      ∙ ap (λ (x : Segments). plan (segments_access x body (λ i. b.address + (i - body.start) * b.distance)) fill i) (sym is.same_segments)
      ∙ ap (λ (y : Body). plan (segments_access b.segments y (λ i. b.address + (i - y.start) * b.distance)) fill i) (sym is.same_body)

  moved : (fill : Bool) → span_transfers b fill ≡ transfers (plan (segments_access s body address) fill) body.start (stop - body.start)
  moved fill =
      ap (λ (y : Body). transfers (plan (span_access b) fill) y.start (b.stop - y.start)) is.same_body
      ∙ ap (λ n. transfers (plan (span_access b) fill) body.start (n - body.start)) is.same_stop
      ∙ sym (same_transfers (plan (segments_access s body address) fill) (plan (span_access b) fill) body.start (stop - body.start)
      (λ k less. same_plan fill (body.start + k) (omega arith) (omega (arith, less))))

  -- an instruction that moves the span stops after its last index
  pub span_ends : (fill : Bool) (access : Access) (m : Memory) (limit : ℕ) → stop ≡ min body.end (body.start + limit) → can_access access m b.address b.length ≡ true
      → Stopped access m (plan (segments_access s body address) fill) body.start (body.start + limit) body.end stop (cond (nat_lt stop body.end) (Cut stop) Done)
  span_ends fill access m limit e all =
      stops_all access m (plan (segments_access s body address) fill) body.start (body.start + limit) body.end stop e (omega arith)
      (λ i low high.
      let from : b.body.start ≤ i = omega (arith, low, ap (λ (y : Body). y.start) is.same_body) in
      ap (are_allowed access m) (same_plan fill i low high) ∙ span_allowed b fill access m all i from (omega (arith, high, is.same_stop)))

  -- a load of the span has the result of the transfers of the instruction
  pub span_loads : (fill : Bool) (m : Memory) (file : List ℕ) → registers_loaded m (place_in b.segments) file (span_transfers b fill)
      ≡ registers_loaded m (place_in s) file (transfers (plan (segments_access s body address) fill) body.start (stop - body.start))
  span_loads fill m file =
      ap (λ (x : Segments). registers_loaded m (place_in x) file (span_transfers b fill)) is.same_segments ∙ ap (registers_loaded m (place_in s) file) (moved fill)

  pub span_stores : (m : Memory) (file : List ℕ) → memory_stored m (place_in b.segments) file (span_transfers b false)
      ≡ memory_stored m (place_in s) file (transfers (plan (segments_access s body address) false) body.start (stop - body.start))
  span_stores m file =
      ap (λ (x : Segments). memory_stored m (place_in x) file (span_transfers b false)) is.same_segments ∙ ap (memory_stored m (place_in s) file) (moved false)

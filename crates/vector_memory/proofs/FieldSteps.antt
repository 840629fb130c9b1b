-- Fields may be moved one after another, each for all indices, if the places that they change are disjoint.
use Rattle.std.proofs.Common.{◌≡◌, ℕ, zero, suc, ◌+◌, ◌-◌, ◌*◌, ◌<◌, ◌≤◌, Bool, true, false, cond, List, [], ◌∷◌, ◌++◌, length, get_or, drop, length-take, refl, sym, ap, ◌∙◌, inl, inr, ◌⊎◌, arith, zero-add}
use Rattle.std.specs.Prelude.{replicate}
use Rattle.std.specs.Simd.Lanes.{chunk, put_chunk}
use Rattle.std.proofs.lemmas.Bool.{cases_Bool, cases_lt}
use Rattle.std.proofs.lemmas.List.{length-replicate}
use Rattle.std.proofs.lemmas.Nat.{mul-le}
use Rattle.std.proofs.Math.Nat.{mul_comm}
use Rattle.rv_model.specs.accesses.Transfers.{Plan, Transfer, registers_loaded, memory_stored, transfers}
use Rattle.rv_model.specs.accesses.VectorAccess.{VectorAccess, filled_segment, element_start, plan, moved_segment}
use Rattle.rv_model.specs.declared.vector.sizes.TheConstants.{VLENB}
use Rattle.rv_model.specs.elements.Elements.{is_enabled}
use Rattle.rv_model.specs.memory.Memory.{Memory, bytes_at, put_bytes}
use Rattle.rv_model.proofs.access_lemmas.Moves.{loaded-append, loaded_none, stored-append, stored_none}
use Rattle.rv_model.proofs.access_lemmas.Segments.{filled_field, filled_start, loaded_field, loaded_start, plan_active, plan_filled, plan_kept, stored_field, stored_start}
use Rattle.rv_model.proofs.memory_lemmas.Memory.{get-put_bytes_outside, get-put_bytes_within, length-bytes_at, same_memory, with_byte}
use Rattle.vector_memory.specs.FieldOrder.{each_field, field_address, field_place, for_each, load_field, store_field}

-- ---- steps for each index

module _ {X : Type 0} where
  pub each_none : (step : X → ℕ → X) (x : X) (i : ℕ) → for_each step x i 0 ≡ x
  unfolding for_each
  each_none step x i = refl

  pub each_more : (step : X → ℕ → X) (x : X) (i n : ℕ) → for_each step x i (n + 1) ≡ step (for_each step x i n) (i + n)
  unfolding for_each
  each_more step x i zero = ap (step x) (omega arith)
  each_more step x i (suc n) =
      let count : suc n + 1 ≡ suc (n + 1) = omega arith in
      ap (for_each step x i) count ∙ each_more step (step x i) (i + 1) n ∙ ap (step (for_each step (step x i) (i + 1) n)) (omega arith)

  -- the result of the steps, if each step takes `made n` to `made (n + 1)`
  pub steps_to : (step : X → ℕ → X) (x : X) (made : ℕ → X) (end : ℕ) → x ≡ made 0 → ((n : ℕ) → n < end → step (made n) n ≡ made (n + 1)) → (n : ℕ) → n ≤ end → for_each step x 0 n ≡ made n
  steps_to step x made end start next zero h = each_none step x 0 ∙ start
  steps_to step x made end start next (suc n) h =
      let count : suc n ≡ n + 1 = omega arith in
      ap (for_each step x 0) count ∙ each_more step x 0 n ∙ ap (step (for_each step x 0 n)) (zero-add n)
      ∙ ap (λ y. step y n) (steps_to step x made end start next n (omega (arith, h))) ∙ next n (omega (arith, h)) ∙ ap made (sym count)

  -- the step of a later field of an index commutes with that of an earlier field of a later index
  abbrev pub Apart : (ℕ → X → ℕ → X) → ℕ → ℕ → ℕ → Type 0
  Apart one fields low top =
      (f h i j : ℕ) (x : X) → h < f → f < fields → low ≤ i → i < j → j < top → one f (one h x j) i ≡ one h (one f x i) j

  module _ (one : ℕ → X → ℕ → X) (fields low top : ℕ) (apart : Apart one fields low top) where
    past_fields : (f i j : ℕ) (x : X) → f < fields → low ≤ i → i < j → j < top
        → (h : ℕ) → h ≤ f → one f (each_field one h x j) i ≡ each_field one h (one f x i) j
    unfolding each_field
    past_fields f i j x some from less end zero most = refl
    past_fields f i j x some from less end (suc h) most =
        apart f h i j (each_field one h x j) (omega (arith, most)) some from less end
        ∙ ap (λ y. one h y j) (past_fields f i j x some from less end h (omega (arith, most)))

    past_indices : (f i : ℕ) → f < fields → low ≤ i → (n j : ℕ) (x : X) → i < j → j + n ≤ top
        → one f (for_each (each_field one f) x j n) i ≡ for_each (each_field one f) (one f x i) j n
    unfolding for_each
    past_indices f i some from zero j x less end = refl
    past_indices f i some from (suc n) j x less end =
        past_indices f i some from n (j + 1) (each_field one f x j) (omega (arith, less)) (omega (arith, end))
        ∙ ap (λ y. for_each (each_field one f) y (j + 1) n) (past_fields f i j x some from less (omega (arith, end)) f (omega arith))

    -- one more field, for all indices
    one_more : (f : ℕ) → f < fields → (n i : ℕ) (x : X) → low ≤ i → i + n ≤ top
        → for_each (one f) (for_each (each_field one f) x i n) i n ≡ for_each (each_field one (suc f)) x i n
    unfolding for_each each_field
    one_more f some zero i x from end = refl
    one_more f some (suc n) i x from end =
        ap (λ y. for_each (one f) y (i + 1) n) (past_indices f i some from n (i + 1) (each_field one f x i) (omega arith) (omega (arith, end)))
        ∙ one_more f some n (i + 1) (one f (each_field one f x i) i) (omega (arith, from)) (omega (arith, end))

    pub field_more : (f : ℕ) → f < fields → (n i : ℕ) (x : X) → low ≤ i → i + n ≤ top
        → for_each (one f) (for_each (each_field one f) x i n) i n ≡ for_each (each_field one (f + 1)) x i n
    field_more f some n i x from end =
        let count : suc f ≡ f + 1 = omega arith in
        one_more f some n i x from end ∙ ap (λ k. for_each (each_field one k) x i n) count

  pub no_field : (one : ℕ → X → ℕ → X) (x : X) (i n : ℕ) → for_each (each_field one 0) x i n ≡ x
  unfolding for_each each_field
  no_field one x i zero = refl
  no_field one x i (suc n) = no_field one x (i + 1) n

  -- the result of all fields of an index, if each step takes `run f` to `run (f + 1)`
  each_is : (one : ℕ → X → ℕ → X) (x : X) (i : ℕ) (run : ℕ → X) → x ≡ run 0 → ((f : ℕ) → one f (run f) i ≡ run (f + 1)) → (f : ℕ) → each_field one f x i ≡ run f
  unfolding each_field
  each_is one x i run start step zero = start
  each_is one x i run start step (suc f) =
      let count : f + 1 ≡ suc f = omega arith in
      ap (λ y. one f y i) (each_is one x i run start step f) ∙ step f ∙ ap run count

  -- all indices, if the step of an index is the run of its transfers
  all_moved : (step : X → ℕ → X) (run : X → List Transfer → X) (each : Plan) → ((x : X) → run x [] ≡ x) → ((x : X) (ts us : List Transfer) → run x (ts ++ us) ≡ run (run x ts) us)
      → ((x : X) (i : ℕ) → step x i ≡ run x (each i)) → (n i : ℕ) (x : X) → for_each step x i n ≡ run x (transfers each i n)
  unfolding for_each transfers
  all_moved step run each none append same zero i x = sym (none x)
  all_moved step run each none append same (suc n) i x =
      all_moved step run each none append same n (i + 1) (step x i) ∙ ap (λ y. run y (transfers each (i + 1) n)) (same x i) ∙ sym (append x (each i) (transfers each (i + 1) n))

-- ---- a load

module _ (m : Memory) (a : VectorAccess) (fill : Bool) where
  enabled_field : (f : ℕ) (file : List ℕ) (i : ℕ) → is_enabled a.body i ≡ true
      → load_field m a fill f file i ≡ put_chunk (field_place a f i) file (bytes_at m (field_address a f i) a.size)
  unfolding load_field
  enabled_field f file i h = rw h refl

  off_filled : (f : ℕ) (file : List ℕ) (i : ℕ) → is_enabled a.body i ≡ false → fill ≡ true
      → load_field m a fill f file i ≡ put_chunk (field_place a f i) file (replicate a.size 255)
  unfolding load_field
  off_filled f file i h e = rw (h, e) refl

  off_kept : (f : ℕ) (file : List ℕ) (i : ℕ) → is_enabled a.body i ≡ false → fill ≡ false → load_field m a fill f file i ≡ file
  unfolding load_field
  off_kept f file i h e = rw (h, e) refl

  fields_planned : (file : List ℕ) (i : ℕ) → each_field (load_field m a fill) a.fields file i ≡ registers_loaded m (element_start a) file (plan a fill i)
  fields_planned file i = elim (cases_Bool (is_enabled a.body i)) [
    | inl h ↦
        let run : ℕ → List ℕ = λ f. registers_loaded m (element_start a) file (moved_segment i (a.address i) a.size f) in
        each_is (load_field m a fill) file i run (loaded_start m (element_start a) file i (a.address i) a.size)
        (λ f. enabled_field f (run f) i h ∙ loaded_field m (element_start a) file i (a.address i) a.size f) a.fields
        ∙ sym (ap (registers_loaded m (element_start a) file) (plan_active a fill i h))
    | inr h ↦ elim (cases_Bool fill) [
      | inl e ↦
          let run : ℕ → List ℕ = λ f. registers_loaded m (element_start a) file (filled_segment i a.size f) in
          each_is (load_field m a fill) file i run (filled_start m (element_start a) file i a.size)
          (λ f. off_filled f (run f) i h e ∙ filled_field m (element_start a) file i a.size f) a.fields
          ∙ sym (ap (registers_loaded m (element_start a) file) (plan_filled a fill i h e))
      | inr e ↦
          each_is (load_field m a fill) file i (λ f. file) refl (λ f. off_kept f file i h e) a.fields
          ∙ sym (ap (registers_loaded m (element_start a) file) (plan_kept a fill i h e) ∙ loaded_none m (element_start a) file)
    ]
  ]

  pub fields_loaded : (n i : ℕ) (file : List ℕ)
      → for_each (each_field (load_field m a fill) a.fields) file i n ≡ registers_loaded m (element_start a) file (transfers (plan a fill) i n)
  fields_loaded =
      all_moved (each_field (load_field m a fill) a.fields) (registers_loaded m (element_start a)) (plan a fill) (loaded_none m (element_start a)) (loaded-append m (element_start a)) fields_planned

  -- one field of an active index, as the loop moves it
  pub load_active : (f i at : ℕ) (file bytes : List ℕ) → is_enabled a.body i ≡ true → at ≡ field_place a f i → bytes ≡ bytes_at m (field_address a f i) a.size
      → put_chunk at file bytes ≡ load_field m a fill f file i
  load_active f i at file bytes h place read = rw (place, read) (sym (enabled_field f file i h))

  pub load_filled : (f i at : ℕ) (file bytes : List ℕ) → is_enabled a.body i ≡ false → fill ≡ true → at ≡ field_place a f i → bytes ≡ replicate a.size 255
      → put_chunk at file bytes ≡ load_field m a fill f file i
  load_filled f i at file bytes h e place ones = rw (place, ones) (sym (off_filled f file i h e))

  pub load_kept : (f i : ℕ) (file : List ℕ) → is_enabled a.body i ≡ false → fill ≡ false → file ≡ load_field m a fill f file i
  load_kept f i file h e = sym (off_kept f file i h e)

-- two writes to disjoint places commute
put_low : (p q : ℕ) (file xs ys : List ℕ) → p + length xs ≤ q → put_chunk p (put_chunk q file ys) xs ≡ put_chunk q (put_chunk p file xs) ys
put_low p q [] xs ys h = refl
put_low zero q (z ∷ file) [] ys h = none q (z ∷ file)
  where
    empty : (l : List ℕ) → put_chunk zero l [] ≡ l
    empty [] = refl
    empty (y ∷ l) = refl

    none : (k : ℕ) (l : List ℕ) → put_chunk zero (put_chunk k l ys) [] ≡ put_chunk k (put_chunk zero l []) ys
    none k l = empty (put_chunk k l ys) ∙ sym (ap (λ x. put_chunk k x ys) (empty l))
put_low zero (suc q) (z ∷ file) (x ∷ xs) ys h = ap (λ l. x ∷ l) (put_low zero q file xs ys (omega (arith, h)))
put_low (suc p) (suc q) (z ∷ file) xs ys h = ap (λ l. z ∷ l) (put_low p q file xs ys (omega (arith, h)))
put_low _ _ _ xs ys h = absurd (omega (arith, h))

-- loads of fields commute, since their places in the registers are disjoint
module _ (m : Memory) (a : VectorAccess) (fill : Bool) (top : ℕ) (room : a.size * top ≤ VLENB * a.field_registers) where
  abbrev moved : ℕ → ℕ → List ℕ
  moved f i = cond (is_enabled a.body i) (bytes_at m (field_address a f i) a.size) (replicate a.size 255)

  moved_size : (f i : ℕ) → length (moved f i) ≡ a.size
  moved_size f i = elim (is_enabled a.body i) as (λ b. length (cond b (bytes_at m (field_address a f i) a.size) (replicate a.size 255)) ≡ a.size) [
    | true ↦ length-bytes_at m (field_address a f i) a.size
    | false ↦ length-replicate {A = ℕ} a.size 255
  ]

  -- a field is written, or the register file is unchanged
  written : (f i : ℕ)
      → ((file : List ℕ) → load_field m a fill f file i ≡ put_chunk (field_place a f i) file (moved f i)) ⊎ ((file : List ℕ) → load_field m a fill f file i ≡ file)
  written f i = elim (cases_Bool (is_enabled a.body i)) [
    | inl h ↦ inl (λ file. enabled_field m a fill f file i h ∙ ap (put_chunk (field_place a f i) file) (sym (chosen h)))
    | inr h ↦ elim (cases_Bool fill) [
      | inl e ↦ inl (λ file. off_filled m a fill f file i h e ∙ ap (put_chunk (field_place a f i) file) (sym (chosen h)))
      | inr e ↦ inr (λ file. off_kept m a fill f file i h e)
    ]
  ]
    where
      chosen : {b : Bool} → is_enabled a.body i ≡ b → moved f i ≡ cond b (bytes_at m (field_address a f i) a.size) (replicate a.size 255)
      chosen h = ap (λ c. cond c (bytes_at m (field_address a f i) a.size) (replicate a.size 255)) h

  pub loads_apart : (fields : ℕ) → Apart (load_field m a fill) fields 0 top
  loads_apart fields f h i j x less some from order end = elim (written f i) [
    | inr kept ↦ kept (load_field m a fill h x j) ∙ sym (ap (λ y. load_field m a fill h y j) (kept x))
    | inl put ↦ elim (written h j) [
      | inr kept ↦ ap (λ y. load_field m a fill f y i) (kept x) ∙ sym (kept (load_field m a fill f x i))
      | inl other ↦
          let low : field_place a h j + length (moved h j) ≤ field_place a f i =
          omega (
            arith,
            moved_size h j,
            room,
            mul_comm a.size top,
            mul-le (j + 1) a.size top a.size (omega (arith, end)) (omega arith),
            mul-le (h + 1) a.field_registers f a.field_registers (omega (arith, less)) (omega arith),
          ) in
          put (load_field m a fill h x j) ∙ ap (λ y. put_chunk (field_place a f i) y (moved f i)) (other x)
          ∙ sym (put_low (field_place a h j) (field_place a f i) x (moved h j) (moved f i) low)
          ∙ sym (other (load_field m a fill f x i) ∙ ap (λ y. put_chunk (field_place a h j) y (moved h j)) (put x))
    ]
  ]

-- ---- a store

module _ (file : List ℕ) (a : VectorAccess) where
  stores : (f : ℕ) (m : Memory) (i : ℕ) → is_enabled a.body i ≡ true
      → store_field file a f m i ≡ put_bytes m (field_address a f i) (chunk (field_place a f i) a.size file)
  unfolding store_field
  stores f m i h = rw h refl

  stores_none : (f : ℕ) (m : Memory) (i : ℕ) → is_enabled a.body i ≡ false → store_field file a f m i ≡ m
  unfolding store_field
  stores_none f m i h = rw h refl

  fields_of : (m : Memory) (i : ℕ) → each_field (store_field file a) a.fields m i ≡ memory_stored m (element_start a) file (plan a false i)
  fields_of m i = elim (cases_Bool (is_enabled a.body i)) [
    | inl h ↦
        let run : ℕ → Memory = λ f. memory_stored m (element_start a) file (moved_segment i (a.address i) a.size f) in
        each_is (store_field file a) m i run (stored_start m (element_start a) file i (a.address i) a.size)
        (λ f. stores f (run f) i h ∙ stored_field m (element_start a) file i (a.address i) a.size f) a.fields
        ∙ sym (ap (memory_stored m (element_start a) file) (plan_active a false i h))
    | inr h ↦
        each_is (store_field file a) m i (λ f. m) refl (λ f. stores_none f m i h) a.fields
        ∙ sym (ap (memory_stored m (element_start a) file) (plan_kept a false i h refl) ∙ stored_none m (element_start a) file)
  ]

  pub fields_stored : (n i : ℕ) (m : Memory)
      → for_each (each_field (store_field file a) a.fields) m i n ≡ memory_stored m (element_start a) file (transfers (plan a false) i n)
  fields_stored =
      all_moved (each_field (store_field file a) a.fields) (λ m ts. memory_stored m (element_start a) file ts) (plan a false)
      (λ m. stored_none m (element_start a) file) (λ m ts us. stored-append m (element_start a) file ts us) fields_of

  -- one field of an active index, as the loop moves it
  pub store_active : (f i at : ℕ) (m : Memory) (bytes : List ℕ) → is_enabled a.body i ≡ true → at ≡ field_address a f i
      → bytes ≡ chunk (field_place a f i) a.size file → put_bytes m at bytes ≡ store_field file a f m i
  store_active f i at m bytes h address part = rw (address, part) (sym (stores f m i h))

  pub store_kept : (f i : ℕ) (m : Memory) → is_enabled a.body i ≡ false → m ≡ store_field file a f m i
  store_kept f i m h = sym (stores_none f m i h)

-- two writes to disjoint places commute
put_below : (m : Memory) (p q : ℕ) (xs ys : List ℕ) → p + length xs ≤ q → put_bytes (put_bytes m q ys) p xs ≡ put_bytes (put_bytes m p xs) q ys
put_below m p q xs ys h = same_memory (put_bytes (put_bytes m q ys) p xs) (put_bytes (put_bytes m p xs) q ys) (λ x. elim (place x p (length xs)) [
  | inl out ↦ elim (place x q (length ys)) [
    | inl away ↦
        get-put_bytes_outside (put_bytes m q ys) p xs x out ∙ get-put_bytes_outside m q ys x away
        ∙ sym (get-put_bytes_outside (put_bytes m p xs) q ys x away ∙ get-put_bytes_outside m p xs x out)
    | inr here ↦
        get-put_bytes_outside (put_bytes m q ys) p xs x out ∙ get-put_bytes_within m q ys (x - q) x here.0 here.1
        ∙ sym (get-put_bytes_within (put_bytes m p xs) q ys (x - q) x here.0 here.1 ∙ ap (with_byte (get_or ys (x - q) 0)) (get-put_bytes_outside m p xs x out))
  ]
  | inr here ↦
      let low : x < q = omega (arith, here.0, here.1, h) in
      get-put_bytes_within (put_bytes m q ys) p xs (x - p) x here.0 here.1 ∙ ap (with_byte (get_or xs (x - p) 0)) (get-put_bytes_outside m q ys x (inl low))
      ∙ sym (get-put_bytes_outside (put_bytes m p xs) q ys x (inl low) ∙ get-put_bytes_within m p xs (x - p) x here.0 here.1)
])
  where
    place : (x a n : ℕ) → ((x < a) ⊎ (a + n ≤ x)) ⊎ ((x - a < n) × (x ≡ a + (x - a)))
    place x a n = elim (cases_lt x a) [
      | inl low ↦ inl (inl low)
      | inr from ↦ elim (cases_lt x (a + n)) [ inl high ↦ inr (omega arith, omega arith) | inr past ↦ inl (inr past) ]
    ]

-- stores of fields commute, if the segments are disjoint
module _ (file : List ℕ) (a : VectorAccess) (low top : ℕ)
    (apart : (f h i j : ℕ) → h < f → f < a.fields → low ≤ i → i < j → j < top → field_address a f i + a.size ≤ field_address a h j) where
  pub stores_apart : Apart (store_field file a) a.fields low top
  stores_apart f h i j m less some from order end = elim (cases_Bool (is_enabled a.body i)) [
    | inr off ↦ stores_none file a f (store_field file a h m j) i off ∙ sym (ap (λ y. store_field file a h y j) (stores_none file a f m i off))
    | inl on ↦ elim (cases_Bool (is_enabled a.body j)) [
      | inr off ↦ ap (λ y. store_field file a f y i) (stores_none file a h m j off) ∙ sym (stores_none file a h (store_field file a f m i) j off)
      | inl also ↦
          let xs : List ℕ = chunk (field_place a f i) a.size file in
          let ys : List ℕ = chunk (field_place a h j) a.size file in
          let short : field_address a f i + length xs ≤ field_address a h j =
          omega (arith, apart f h i j less some from order end, length-take a.size (drop (field_place a f i) file)) in
          stores file a f (store_field file a h m j) i on ∙ ap (λ y. put_bytes y (field_address a f i) xs) (stores file a h m j also)
          ∙ put_below m (field_address a f i) (field_address a h j) xs ys short
          ∙ sym (stores file a h (store_field file a f m i) j also ∙ ap (λ y. put_bytes y (field_address a h j) ys) (stores file a f m i on))
    ]
  ]

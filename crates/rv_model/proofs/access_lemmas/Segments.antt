-- The transfers of one index, field by field.
use Rattle.std.proofs.Common.{◌≡◌, ℕ, zero, suc, ◌+◌, ◌*◌, ◌-◌, ◌<◌, ◌%◌, ◌^◌, ◌&&◌, Bool, true, false, cond, List, [], ◌∷◌, ◌++◌, map, refl, sym, ◌∙◌, ap, arith}
use Rattle.std.specs.List.{range_with_len}
use Rattle.std.specs.Simd.Lanes.{chunk, put_chunk}
use Rattle.std.specs.Prelude.{replicate}
use Rattle.std.proofs.lemmas.Bool.{and_parts}
use Rattle.std.proofs.lemmas.List.{map-append}
use Rattle.std.proofs.lemmas.Bool.Decides.{nat_tests}
use Rattle.rv_model.specs.accesses.Transfers.{Moved, Ones, Transfer, address_of, are_allowed, bad_address, can_transfer, registers_loaded, memory_stored}
use Rattle.rv_model.specs.accesses.VectorAccess.{VectorAccess, filled_segment, plan, moved_segment}
use Rattle.rv_model.specs.declared.memory.Access.{Access}
use Rattle.rv_model.specs.elements.Elements.{is_enabled}
use Rattle.rv_model.specs.memory.Memory.{Memory, bytes_at, put_bytes}
use Rattle.rv_model.proofs.access_lemmas.Moves.{are_allowed-append, loaded-append, loaded_one, stored-append, stored_one}
use Rattle.rv_model.proofs.element_lemmas.Ranges.{range_more}

-- one field of a segment
abbrev pub field_transfer : ℕ → ℕ → ℕ → ℕ → Transfer
field_transfer i address size f = record { index = i; field = f; size = size; kind = Moved ((address + f * size) % 2 ^ 64) }

-- one field of an index, filled with ones
abbrev pub filled_transfer : ℕ → ℕ → ℕ → Transfer
filled_transfer i size f = record { index = i; field = f; size = size; kind = Ones }

mapped_more : (of : ℕ → Transfer) (n : ℕ) → map of (range_with_len 0 (n + 1)) ≡ map of (range_with_len 0 n) ++ of n ∷ []
mapped_more of n = ap (map of) (range_more n) ∙ map-append of (range_with_len 0 n) (n ∷ [])

-- one field more
pub segment_more : (i address size n : ℕ) → moved_segment i address size (n + 1) ≡ moved_segment i address size n ++ field_transfer i address size n ∷ []
segment_more i address size n = mapped_more (field_transfer i address size) n

pub filled_more : (i size n : ℕ) → filled_segment i size (n + 1) ≡ filled_segment i size n ++ filled_transfer i size n ∷ []
filled_more i size n = mapped_more (filled_transfer i size) n

-- the fields from `a` on, split at one of them
mapped_split : (of : ℕ → Transfer) (a f k n : ℕ) → n ≡ f + suc k → map of (range_with_len a n) ≡ map of (range_with_len a f) ++ of (a + f) ∷ map of (range_with_len (a + f + 1) k)
mapped_split of a zero k n e =
    let count : n ≡ suc k = omega (arith, e) in
    ap (λ c. map of (range_with_len a c)) count ∙ ap (λ x. of x ∷ map of (range_with_len (x + 1) k)) (omega arith)
mapped_split of a (suc f) k n e =
    let count : n ≡ suc (f + suc k) = omega (arith, e) in
    ap (λ c. map of (range_with_len a c)) count
    ∙ ap (λ ts. of a ∷ ts) (mapped_split of (a + 1) f k (f + suc k) refl)
    ∙ ap (λ x. of a ∷ (map of (range_with_len (a + 1) f) ++ of x ∷ map of (range_with_len (x + 1) k))) (omega arith)

-- the fields after field f
abbrev fields_after : ℕ → ℕ → ℕ → ℕ → ℕ → List Transfer
fields_after i address size f n = map (field_transfer i address size) (range_with_len (f + 1) (n - (f + 1)))

segment_split : (i address size f n : ℕ) → f < n → moved_segment i address size n ≡ moved_segment i address size f ++ field_transfer i address size f ∷ fields_after i address size f n
segment_split i address size f n h =
    let of = field_transfer i address size in
    mapped_split of 0 f (n - (f + 1)) n (omega (arith, h))
    ∙ ap (λ x. moved_segment i address size f ++ of x ∷ map of (range_with_len (x + 1) (n - (f + 1)))) (omega arith)

-- ---- whether the fields may be accessed

module _ (access : Access) (m : Memory) (i address size : ℕ) where
  pub allowed_more : (f : ℕ) → are_allowed access m (moved_segment i address size f) ≡ true → can_transfer access m (field_transfer i address size f) ≡ true
      → are_allowed access m (moved_segment i address size (f + 1)) ≡ true
  unfolding are_allowed
  allowed_more f before here = search (arith, nat_tests, are_allowed-append, segment_more)

  -- if the fields before field f are allowed and f isn't, the index isn't allowed
  pub allowed_not : (f n : ℕ) → f < n → are_allowed access m (moved_segment i address size f) ≡ true → can_transfer access m (field_transfer i address size f) ≡ false
      → are_allowed access m (moved_segment i address size n) ≡ false
  unfolding are_allowed
  allowed_not f n h before here =
      ap (are_allowed access m) (segment_split i address size f n h)
      ∙ are_allowed-append access m (moved_segment i address size f) (field_transfer i address size f ∷ fields_after i address size f n)
      ∙ ap (λ b. b && are_allowed access m (field_transfer i address size f ∷ fields_after i address size f n)) before
      ∙ ap (λ b. b && are_allowed access m (fields_after i address size f n)) here

  bad_after : (xs ys : List Transfer) (t : Transfer) → are_allowed access m xs ≡ true → can_transfer access m t ≡ false → bad_address access m (xs ++ t ∷ ys) ≡ address_of t.kind
  unfolding are_allowed bad_address
  bad_after [] ys t before here = ap (λ b. cond b (bad_address access m ys) (address_of t.kind)) here
  bad_after (x ∷ xs) ys t before here =
      let parts = and_parts (can_transfer access m x) (are_allowed access m xs) before in
      ap (λ b. cond b (bad_address access m (xs ++ t ∷ ys)) (address_of x.kind)) parts.0 ∙ bad_after xs ys t parts.1 here

  pub bad_found : (f n : ℕ) → f < n → are_allowed access m (moved_segment i address size f) ≡ true → can_transfer access m (field_transfer i address size f) ≡ false
      → bad_address access m (moved_segment i address size n) ≡ (address + f * size) % 2 ^ 64
  bad_found f n h before here =
      ap (bad_address access m) (segment_split i address size f n h)
      ∙ bad_after (moved_segment i address size f) (fields_after i address size f n) (field_transfer i address size f) before here

  -- each field of an allowed index is allowed
  pub allowed_field : (f n : ℕ) → f < n → are_allowed access m (moved_segment i address size n) ≡ true → can_transfer access m (field_transfer i address size f) ≡ true
  unfolding are_allowed
  allowed_field f n h all =
      let split =
      sym (ap (are_allowed access m) (segment_split i address size f n h)
      ∙ are_allowed-append access m (moved_segment i address size f) (field_transfer i address size f ∷ fields_after i address size f n)) ∙ all in
      let rest = and_parts (are_allowed access m (moved_segment i address size f)) (are_allowed access m (field_transfer i address size f ∷ fields_after i address size f n)) split in
      (and_parts (can_transfer access m (field_transfer i address size f)) (are_allowed access m (fields_after i address size f n)) rest.1).0

-- fields that are only filled are always allowed
filled_from : (access : Access) (m : Memory) (i size a n : ℕ) → are_allowed access m (map (filled_transfer i size) (range_with_len a n)) ≡ true
unfolding are_allowed
filled_from access m i size a zero = refl
filled_from access m i size a (suc n) = filled_from access m i size (a + 1) n

pub filled_allowed : (access : Access) (m : Memory) (i size n : ℕ) → are_allowed access m (filled_segment i size n) ≡ true
filled_allowed access m i size n = filled_from access m i size 0 n

-- ---- the results of the fields

module _ (m : Memory) (place : Transfer → ℕ) (file : List ℕ) where
  -- before the first field
  pub loaded_start : (i address size : ℕ) → file ≡ registers_loaded m place file (moved_segment i address size 0)
  unfolding registers_loaded
  loaded_start i address size = refl

  pub filled_start : (i size : ℕ) → file ≡ registers_loaded m place file (filled_segment i size 0)
  unfolding registers_loaded
  filled_start i size = refl

  pub stored_start : (i address size : ℕ) → m ≡ memory_stored m place file (moved_segment i address size 0)
  unfolding memory_stored
  stored_start i address size = refl

  -- one field more
  pub loaded_field : (i address size f : ℕ)
      → put_chunk (place (field_transfer i address size f)) (registers_loaded m place file (moved_segment i address size f)) (bytes_at m ((address + f * size) % 2 ^ 64) size)
      ≡ registers_loaded m place file (moved_segment i address size (f + 1))
  loaded_field i address size f = search (loaded-append, loaded_one, segment_more)

  pub filled_field : (i size f : ℕ)
      → put_chunk (place (filled_transfer i size f)) (registers_loaded m place file (filled_segment i size f)) (replicate size 255)
      ≡ registers_loaded m place file (filled_segment i size (f + 1))
  filled_field i size f = search (filled_more, loaded-append, loaded_one)

  pub stored_field : (i address size f : ℕ)
      → put_bytes (memory_stored m place file (moved_segment i address size f)) ((address + f * size) % 2 ^ 64) (chunk (place (field_transfer i address size f)) size file)
      ≡ memory_stored m place file (moved_segment i address size (f + 1))
  stored_field i address size f = search (segment_more, stored-append, stored_one)

-- ---- the plan of an index

pub plan_active : (a : VectorAccess) (fill : Bool) (i : ℕ) → is_enabled a.body i ≡ true → plan a fill i ≡ moved_segment i (a.address i) a.size a.fields
unfolding plan
plan_active a fill i h = ap (λ b. cond b (moved_segment i (a.address i) a.size a.fields) (cond fill (filled_segment i a.size a.fields) [])) h

plan_masked_off : (a : VectorAccess) (fill : Bool) (i : ℕ) → is_enabled a.body i ≡ false → plan a fill i ≡ cond fill (filled_segment i a.size a.fields) []
unfolding plan
plan_masked_off a fill i h = ap (λ b. cond b (moved_segment i (a.address i) a.size a.fields) (cond fill (filled_segment i a.size a.fields) [])) h

pub plan_filled : (a : VectorAccess) (fill : Bool) (i : ℕ) → is_enabled a.body i ≡ false → fill ≡ true → plan a fill i ≡ filled_segment i a.size a.fields
plan_filled a fill i h e = plan_masked_off a fill i h ∙ ap (λ b. cond b (filled_segment i a.size a.fields) []) e

pub plan_kept : (a : VectorAccess) (fill : Bool) (i : ℕ) → is_enabled a.body i ≡ false → fill ≡ false → plan a fill i ≡ []
plan_kept a fill i h e = plan_masked_off a fill i h ∙ ap (λ b. cond b (filled_segment i a.size a.fields) []) e

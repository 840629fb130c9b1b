-- Segments in lent bytes, and loads and stores of some indices after others.
use Rattle.std.proofs.Common.{◌≡◌, ℕ, zero, suc, ◌+◌, ◌-◌, ◌*◌, ◌%◌, ◌^◌, ◌<◌, ◌≤◌, true, List, ◌++◌, length, refl, subst, sym, ap, ◌∙◌, inl, inr, arith}
use Rattle.std.specs.Simd.Lanes.{chunk, put_chunk}
use Rattle.std.proofs.Math.Nat.{mod-eq_of_lt}
use Rattle.std.proofs.lemmas.Bool.{cases_lt}
use Rattle.std.proofs.lemmas.Nat.{mul-le}
use Rattle.lent_bytes.specs.Lent.{IsLent}
use Rattle.rv_model.specs.accesses.Transfers.{Plan, Transfer, are_allowed, memory_stored, registers_loaded, transfers}
use Rattle.rv_model.specs.accesses.VectorAccess.{moved_segment}
use Rattle.rv_model.specs.declared.memory.Access.{Access}
use Rattle.rv_model.specs.declared.memory.Access.TheVariants.{Load, Store}
use Rattle.rv_model.specs.memory.Memory.{Memory, bytes_at, can_access, put_bytes}
use Rattle.rv_model.proofs.access_lemmas.Moves.{are_allowed-stored, loaded-append, loaded_none, stored-append, stored_none}
use Rattle.rv_model.proofs.access_lemmas.Segments.{allowed_more, field_transfer, loaded_field, stored_field}
use Rattle.rv_model.proofs.access_lemmas.Stops.{AllAllowed, transfers-add, transfers_more, transfers_none}
use Rattle.rv_model.proofs.access_lemmas.Stops as stops
use Rattle.vector_memory.specs.Lent.{ArePartLoaded, ArePartStored, IsIndexLoaded}
use Rattle.vector_memory.proofs.SpanMoves.{no_field, part_allowed, part_read, put_part, put_read}

-- the size of an element, of which n fill a register
pub some_bytes : (k n : ℕ) → k * n ≡ 32 → 1 ≤ k
some_bytes zero n e = absurd (omega (arith, e))
some_bytes (suc k) n e = omega arith

-- ---- fields of a segment in bytes from the address `first` on

module _ (first n address offset size : ℕ) (at : address ≡ first + offset) (some : 1 ≤ size) (end : first + n ≤ 2 ^ 64) where
  -- the address of a field
  field_at : (f : ℕ) → offset + suc f * size ≤ n → (address + f * size) % 2 ^ 64 ≡ first + (offset + f * size)
  field_at f room =
      let more : suc f * size ≡ f * size + size = omega arith in
      mod-eq_of_lt (omega (arith, at, end, more, room, some)) ∙ omega (arith, at)

  pub fields_allowed : (access : Access) (m : Memory) (i : ℕ) → can_access access m first n ≡ true → (fields : ℕ) → offset + fields * size ≤ n
      → are_allowed access m (moved_segment i address size fields) ≡ true
  fields_allowed access m i all zero room = no_field access m i address size
  fields_allowed access m i all (suc f) room =
      let more : suc f * size ≡ f * size + size = omega arith in
      let count : suc f ≡ f + 1 = omega arith in
      ap (λ k. are_allowed access m (moved_segment i address size k)) count
      ∙ allowed_more access m i address size f (fields_allowed access m i all f (omega (arith, more, room)))
      (ap (λ y. can_access access m y size) (field_at f room)
      ∙ part_allowed access m first n (offset + f * size) size (first + (offset + f * size)) all (omega (arith, more, room)) refl)

  -- a field is inside the bytes of all fields
  pub field_inside : (f fields : ℕ) → f < fields → offset + fields * size ≤ n → offset + suc f * size ≤ n
  field_inside f fields less room = omega (arith, room, mul-le (suc f) size fields size (omega (arith, less)) (omega arith))

  -- the registers after one more field is loaded
  pub lent_field : (m : Memory) (bytes : List ℕ) (place : Transfer → ℕ) (file : List ℕ) (i f fields : ℕ) → n ≡ length bytes → IsLent Load m first bytes → f < fields → offset + fields * size ≤ n
      → put_chunk (place (field_transfer i address size f)) (registers_loaded m place file (moved_segment i address size f)) (chunk (offset + f * size) size bytes)
      ≡ registers_loaded m place file (moved_segment i address size (f + 1))
  lent_field m bytes place file i f fields count lent less room =
      let inside = field_inside f fields less room in
      let more : suc f * size ≡ f * size + size = omega arith in
      let read : chunk (offset + f * size) size bytes ≡ bytes_at m ((address + f * size) % 2 ^ 64) size =
      ap (chunk (offset + f * size) size) lent.value
      ∙ part_read m first (length bytes) (offset + f * size) size (omega (arith, inside, more, count))
      ∙ ap (λ a. bytes_at m a size) (sym (field_at f inside)) in
      ap (put_chunk (place (field_transfer i address size f)) (registers_loaded m place file (moved_segment i address size f))) read
      ∙ loaded_field m place file i address size f

  -- the memory after one more field is stored
  pub stored_lent : (m : Memory) (old bytes : List ℕ) (place : Transfer → ℕ) (file : List ℕ) (i f fields : ℕ) → n ≡ length bytes → f < fields → offset + fields * size ≤ n
      → put_bytes m first bytes ≡ memory_stored (put_bytes m first old) place file (moved_segment i address size f)
      → length (chunk (place (field_transfer i address size f)) size file) ≡ size
      → put_bytes m first (put_chunk (offset + f * size) bytes (chunk (place (field_transfer i address size f)) size file))
      ≡ memory_stored (put_bytes m first old) place file (moved_segment i address size (f + 1))
  stored_lent m old bytes place file i f fields count less room before long =
      let inside = field_inside f fields less room in
      let more : suc f * size ≡ f * size + size = omega arith in
      let xs = chunk (place (field_transfer i address size f)) size file in
      put_part m first (offset + f * size) bytes xs (omega (arith, inside, more, count, long))
      ∙ ap (λ x. put_bytes x (first + (offset + f * size)) xs) before
      ∙ ap (λ a. put_bytes (memory_stored (put_bytes m first old) place file (moved_segment i address size f)) a xs) (sym (field_at f inside))
      ∙ stored_field (put_bytes m first old) place file i address size f

-- ---- loads of some indices

module _ (m : Memory) (place : Transfer → ℕ) (each : Plan) (from : ℕ) where
  pub part_none : (file : List ℕ) → ArePartLoaded m place each from from file file
  part_none file = record {
    allowed = λ k low high. absurd (omega (arith, low, high));
    value = sym (ap (registers_loaded m place file) (transfers_none each from from (omega arith)) ∙ loaded_none m place file);
  }

  pub part_same : (to : ℕ) (old new : List ℕ) → to ≡ from → ArePartLoaded m place each from to old new → new ≡ old
  part_same to old new e part =
      part.value ∙ ap (registers_loaded m place old) (transfers_none each from to (omega (arith, e))) ∙ loaded_none m place old

  -- one more index
  pub part_more : (i : ℕ) (old mid new : List ℕ) → from ≤ i → ArePartLoaded m place each from i old mid → IsIndexLoaded m place (each i) mid new
      → ArePartLoaded m place each from (i + 1) old new
  part_more i old mid new low before here = record {
    allowed = stops.allowed_more Load m each from i before.allowed here.allowed;
    value =
        here.value ∙ ap (λ f. registers_loaded m place f (each i)) before.value
        ∙ sym (loaded-append m place old (transfers each from (i - from)) (each i))
        ∙ ap (registers_loaded m place old) (sym (transfers_more each from i low));
  }

-- the transfers of indices up to `to`, in two parts
transfers_then : (each : Plan) (from mid to : ℕ) → from ≤ mid → mid ≤ to → transfers each from (to - from) ≡ transfers each from (mid - from) ++ transfers each mid (to - mid)
transfers_then each from mid to low high =
    let sum : to - from ≡ (mid - from) + (to - mid) = omega (arith, low, high) in
    let next : from + (mid - from) ≡ mid = omega (arith, low) in
    ap (transfers each from) sum ∙ transfers-add each from (mid - from) (to - mid)
    ∙ ap (λ j. transfers each from (mid - from) ++ transfers each j (to - mid)) next

module _ (m : Memory) (place : Transfer → ℕ) (each : Plan) (from mid to : ℕ) (low : from ≤ mid) (high : mid ≤ to) where
  -- more indices
  pub part_then : (old file new : List ℕ) → ArePartLoaded m place each from mid old file → ArePartLoaded m place each mid to file new
      → ArePartLoaded m place each from to old new
  part_then old file new before after = record {
    allowed = λ k less more. elim (cases_lt k mid) [
      | inl below ↦ before.allowed k less below
      | inr above ↦ after.allowed k (omega (arith, above)) more
    ];
    value =
        after.value ∙ ap (λ f. registers_loaded m place f (transfers each mid (to - mid))) before.value
        ∙ sym (loaded-append m place old (transfers each from (mid - from)) (transfers each mid (to - mid)))
        ∙ ap (registers_loaded m place old) (sym (transfers_then each from mid to low high));
  }

-- ---- stores of some indices

module _ (place : Transfer → ℕ) (file : List ℕ) (each : Plan) (from : ℕ) where
  pub stored_part_none : (m : Memory) → ArePartStored place file each from from m m
  stored_part_none m = record {
    allowed = λ k low high. absurd (omega (arith, low, high));
    value = sym (ap (memory_stored m place file) (transfers_none each from from (omega arith)) ∙ stored_none m place file);
  }

  -- before the first index is stored to lent bytes
  pub stored_lent_none : (m : Memory) (first : ℕ) (bytes : List ℕ) → IsLent Store m first bytes → ArePartStored place file each from from m (put_bytes m first bytes)
  stored_lent_none m first bytes lent =
      subst (λ x. ArePartStored place file each from from m x) (sym (ap (put_bytes m first) lent.value ∙ put_read m first (length bytes))) (stored_part_none m)

  pub stored_part_same : (to : ℕ) (old new : Memory) → to ≡ from → ArePartStored place file each from to old new → new ≡ old
  stored_part_same to old new e part =
      part.value ∙ ap (memory_stored old place file) (transfers_none each from to (omega (arith, e))) ∙ stored_none old place file

  -- one more index
  pub stored_part_more : (i : ℕ) (old mid new : Memory) → from ≤ i → ArePartStored place file each from i old mid → are_allowed Store old (each i) ≡ true
      → new ≡ memory_stored mid place file (each i) → ArePartStored place file each from (i + 1) old new
  stored_part_more i old mid new low before allowed here = record {
    allowed = stops.allowed_more Store old each from i before.allowed allowed;
    value =
        here ∙ ap (λ x. memory_stored x place file (each i)) before.value
        ∙ sym (stored-append old place file (transfers each from (i - from)) (each i))
        ∙ ap (memory_stored old place file) (sym (transfers_more each from i low));
  }

  -- what a later index may access
  pub allowed_later : (to : ℕ) (old new : Memory) (i : ℕ) → ArePartStored place file each from to old new → are_allowed Store new (each i) ≡ are_allowed Store old (each i)
  allowed_later to old new i part =
      ap (λ x. are_allowed Store x (each i)) part.value ∙ are_allowed-stored Store old place file (transfers each from (to - from)) (each i)

  -- more indices
  pub stored_part_then : (mid to : ℕ) (old now new : Memory) → from ≤ mid → mid ≤ to → ArePartStored place file each from mid old now
      → ArePartStored place file each mid to now new → ArePartStored place file each from to old new
  stored_part_then mid to old now new low high before after = record {
    allowed = λ k less more. elim (cases_lt k mid) [
      | inl below ↦ before.allowed k less below
      | inr above ↦ sym (allowed_later mid old now k before) ∙ after.allowed k (omega (arith, above)) more
    ];
    value =
        after.value ∙ ap (λ x. memory_stored x place file (transfers each mid (to - mid))) before.value
        ∙ sym (stored-append old place file (transfers each from (mid - from)) (transfers each mid (to - mid)))
        ∙ ap (memory_stored old place file) (sym (transfers_then each from mid to low high));
  }

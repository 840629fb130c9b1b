-- The elements that are passed to a viewer, one index after another.
use Rattle.std.proofs.Common.{◌≡◌, ◌∙◌, ◌+◌, ◌-◌, ◌*◌, ◌≤◌, ◌++◌, [], ℕ, false, List, map, ap, refl, sym, subst, arith, add_assoc}
use Rattle.std.proofs.lemmas.List.{map-append}
use Rattle.rv_model.specs.accesses.Transfers.{Transfer, transfers}
use Rattle.rv_model.specs.accesses.VectorAccess.{element_start, plan, unit_direction}
use Rattle.rv_model.specs.declared.instructions.operations.UnitOp.{UnitOp}
use Rattle.rv_model.specs.declared.vector.state.VState.{VState}
use Rattle.rv_model.specs.declared.instructions.operations.Direction.{Direction}
use Rattle.rv_model.specs.elements.Elements.{Body}
use Rattle.rv_model.proofs.access_lemmas.Stops.{transfers_more}
use Rattle.vector_memory.specs.Distances.{moved_by}
use Rattle.vector_memory.specs.MovedElements.{HasSeen, MovedElement, element_of, elements_before, moved_elements, moved_end}
use Rattle.vector_memory.specs.SegmentRoom.{operation_access, place_in, segments_access}
use Rattle.vector_memory.specs.declared.segments.Segments.{Segments}
use Rattle.vector_memory.specs.declared.transfers.Transfer.{Transfer as SegmentTransfer}

-- ---- the elements that a viewer has received

-- room for a number of elements is room for fewer
abbrev Fewer : {V : Type 0} → (V → ℕ → Type 0) → Type 0
Fewer {V} has_room = (v : V) (more count : ℕ) → has_room v (count + more) → has_room v count

pub room_for : {V : Type 0} (has_room : V → ℕ → Type 0) → Fewer has_room → (v : V) (few many : ℕ) → few ≤ many → has_room v many → has_room v few
room_for has_room fewer v few many h room =
    let split : many ≡ few + (many - few) = omega (arith, h) in
    fewer v (many - few) few (subst (has_room v) split room)

module _ {V : Type 0} (saw : V → List MovedElement → V → Type 0) (has_room : V → ℕ → Type 0) (fewer : Fewer has_room) where
  pub seen_none : (v : V) (most : ℕ) → saw v [] v → HasSeen saw has_room most v [] v
  seen_none v most none = record { seen = none; left = fewer v most }

  -- the same elements, with more room
  pub seen_within : (a b : V) (m most : ℕ) (xs zs : List MovedElement) → m ≤ most → zs ≡ xs → HasSeen saw has_room m a xs b → HasSeen saw has_room most a zs b
  seen_within a b m most xs zs h is one = record {
    seen = subst (λ (es : List MovedElement). saw a es b) (sym is) one.seen;
    left = λ count room. one.left count (room_for has_room fewer a (count + m) (count + most) (omega (arith, h)) room);
  }

  -- some elements, then others
  pub seen_more : ((a b c : V) (xs ys : List MovedElement) → saw a xs b → saw b ys c → saw a (xs ++ ys) c)
      → (a b c : V) (m n most : ℕ) (xs ys zs : List MovedElement) → m + n ≤ most → zs ≡ xs ++ ys
      → HasSeen saw has_room m a xs b → HasSeen saw has_room n b ys c → HasSeen saw has_room most a zs c
  seen_more saw_more a b c m n most xs ys zs h is one next =
      seen_within a c (n + m) most (xs ++ ys) zs (omega (arith, h)) is (record {
        seen = saw_more a b c xs ys one.seen next.seen;
        left = λ count room. next.left count (one.left (count + n) (subst (has_room a) (sym (add_assoc count n m)) room));
      })

-- ---- the elements of segments

module _ (d : Direction) (s : Segments) (b : Body) (address : ℕ → ℕ) (file : List ℕ) where
  abbrev elements : List Transfer → List MovedElement
  elements = map (element_of d (place_in s) file)

  -- one more index
  pub index_more : (i : ℕ) → b.start ≤ i
      → elements_before d s b address file (i + 1) ≡ elements_before d s b address file i ++ elements (plan (segments_access s b address) false i)
  index_more i h =
      let each = plan (segments_access s b address) false in
      ap elements (transfers_more each b.start i h) ∙ map-append (element_of d (place_in s) file) (transfers each b.start (i - b.start)) (each i)

  -- no element is received before the first index
  pub seen_at_first : {V : Type 0} (saw : V → List MovedElement → V → Type 0) (has_room : V → ℕ → Type 0) → Fewer has_room → (v : V) (i : ℕ) → i ≤ b.start → saw v [] v
      → HasSeen saw has_room (8 * (i - b.start)) v (elements_before d s b address file i) v
  unfolding transfers
  seen_at_first saw has_room fewer v i h none =
      let same : i - b.start ≡ 0 = omega (arith, h) in
      subst (λ (n : ℕ). HasSeen saw has_room (8 * (i - b.start)) v (elements (transfers (plan (segments_access s b address) false) b.start n)) v) (sym same)
      (seen_none saw has_room fewer v (8 * (i - b.start)) none)

  -- the same elements, for an equal number of indices
  pub seen_as_many : {V : Type 0} (saw : V → List MovedElement → V → Type 0) (has_room : V → ℕ → Type 0) (v w : V) (i j : ℕ) → i - b.start ≡ j - b.start
      → HasSeen saw has_room (8 * (i - b.start)) v (elements_before d s b address file i) w → HasSeen saw has_room (8 * (j - b.start)) v (elements_before d s b address file j) w
  seen_as_many saw has_room v w i j =
      subst (λ (n : ℕ). HasSeen saw has_room (8 * n) v (elements (transfers (plan (segments_access s b address) false) b.start n)) w)

-- the elements of the access of an operation
pub operation_elements : (op : UnitOp) (s : Segments) (body : Body) (address : ℕ → ℕ) (v : VState) (left : ℕ)
    → moved_elements v left (operation_access op s body address)
    ≡ map (element_of (unit_direction op) (place_in s) v.file)
    (transfers (plan (segments_access s body address) false) body.start (moved_end (operation_access op s body address) left - body.start))
unfolding plan
operation_elements op s body address v left = refl

-- the elements of a transfer, with the index after its last one
pub transfer_elements : (t : SegmentTransfer) (v : VState) (left end : ℕ) → end ≡ moved_end (moved_by t v) left
    → elements_before (unit_direction t.op) t.segments (record (moved_by t v).body { end = end }) (moved_by t v).address v.file end
    ≡ moved_elements v left (moved_by t v)
unfolding plan
transfer_elements t v left end is =
    let a = moved_by t v in
    ap (λ (n : ℕ). map (element_of a.direction (element_start a) v.file) (transfers (plan a false) v.vstart (n - v.vstart))) is

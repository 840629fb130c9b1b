-- Elements that are written as numbers are bytes that are moved.
use Rattle.std.proofs.Common.{◌≡◌, ℕ, zero, suc, ◌+◌, ◌-◌, ◌*◌, ◌<◌, ◌≤◌, ◌&&◌, Bool, Fits, false, List, [], ◌∷◌, drop, length, get_or, nat_lt, take, refl, sym, ap, ◌∙◌, inl, inr, arith, zero-add}
use Rattle.std.specs.Int.{Width, byte_at, bytes_low_first, w8}
use Rattle.std.specs.Prelude.{replicate}
use Rattle.std.proofs.Math.Nat.{add-mul, mul_comm, mul-le-mul_left, mul-suc}
use Rattle.std.proofs.lemmas.Bool.{cases_Bool}
use Rattle.std.proofs.lemmas.Grind.{same_number_lists}
use Rattle.std.proofs.lemmas.List.{drop-drop, drop-take, take-take}
use Rattle.std.proofs.lemmas.Simd.{below_from_Fits, chunk-fits, length-chunk}
use lib.Lanes.{Each1, chunk, number_l, put_chunk}
use Rattle.lane_arith.proofs.MaskBits.{byte_of_number}
use Rattle.rv_model.specs.declared.vector.sizes.TheConstants.{VLENB}
use Rattle.rv_model.specs.accesses.Transfers.{registers_loaded, memory_stored}
use Rattle.rv_model.specs.elements.Elements.{element, is_changed, is_enabled, result_or_ones, written}
use Rattle.rv_model.specs.elements.Formulas.{ones}
use Rattle.rv_model.specs.lending.Writes.{Writes}
use Rattle.rv_model.specs.memory.Memory.{Memory, bytes_at, put_bytes}
use Rattle.rv_model.specs.vector.Groups.{width_bytes}
use Rattle.rv_model.proofs.element_lemmas.Sets.{body_begins, body_ends, step_off, step_ones, step_result}
use Rattle.rv_model.proofs.element_lemmas.Widths.{bytes_positive}
use Rattle.rv_model.proofs.memory_lemmas.Memory.{length-bytes_at}
use Rattle.rv_model.proofs.element_lemmas.Writes.{byte_at-is, get_or-bytes, length-bytes, written_are, writes_are}
use Rattle.vector_memory.specs.FieldOrder.{each_field, field_address, field_place, for_each, load_field, store_field}
use Rattle.vector_memory.specs.SegmentRoom.{place_in}
use Rattle.vector_memory.specs.SpanAccess.{IsBlend, part_of, span_access, span_transfers}
use Rattle.vector_memory.specs.declared.spans.Span.{Span}
use Rattle.vector_memory.proofs.BlockMoves.{put_same}
use Rattle.vector_memory.proofs.FieldSteps.{Apart, field_more, fields_loaded, fields_stored, load_active, load_filled, load_kept, loads_apart, no_field, steps_to, store_active, store_kept, stores_apart}
use Rattle.vector_memory.proofs.SpanMoves.{field_begins, fields_apart, field_inside, field_read, put_part}

-- the bytes of the number that these bytes encode
pub number_back : (k : ℕ) (ys : List ℕ) → length ys ≡ k → Each1 (λ x. x < 256) ys → bytes_low_first 0 k (number_l 256 ys) ≡ ys
number_back k ys long below =
    same_number_lists (bytes_low_first 0 k (number_l 256 ys)) ys (length-bytes 0 k (number_l 256 ys) ∙ sym long)
    (λ j h.
    let less : j < k = omega (arith, length-bytes 0 k (number_l 256 ys), h) in
    get_or-bytes 0 k (number_l 256 ys) j less ∙ ap (λ i. byte_at i (number_l 256 ys)) (zero-add j) ∙ byte_at-is j (number_l 256 ys)
    ∙ byte_of_number ys j below (omega (arith, less, long)))

ones_bytes : (w : Width) → bytes_low_first 0 (width_bytes w) (ones w) ≡ replicate (width_bytes w) 255
ones_bytes w8 = refl
ones_bytes _ = refl

-- a write inside a written part
put_front : (q : ℕ) (file group xs : List ℕ) → q + length xs ≤ length group → length group ≤ length file
    → put_chunk q (put_chunk 0 file group) xs ≡ put_chunk 0 file (put_chunk q group xs)
put_front q [] [] xs h k = refl
put_front zero (z ∷ file) [] [] h k = refl
put_front zero (z ∷ file) (g ∷ gs) [] h k = refl
put_front zero (z ∷ file) (g ∷ gs) (x ∷ xs) h k = ap (λ l. x ∷ l) (put_front zero file gs xs (omega (arith, h)) (omega (arith, k)))
put_front (suc q) (z ∷ file) (g ∷ gs) xs h k = ap (λ l. g ∷ l) (put_front q file gs xs (omega (arith, h)) (omega (arith, k)))
put_front _ _ _ xs h k = absurd (omega (arith, h, k))

pub put_within : (p q to : ℕ) (file group xs : List ℕ) → to ≡ p + q → q + length xs ≤ length group → p + length group ≤ length file
    → put_chunk to (put_chunk p file group) xs ≡ put_chunk p file (put_chunk q group xs)
put_within p q to [] group xs e h k = refl
put_within zero q to (z ∷ file) group xs e h k =
    let same : to ≡ q = omega (arith, e) in
    ap (λ n. put_chunk n (put_chunk 0 (z ∷ file) group) xs) same ∙ put_front q (z ∷ file) group xs h (omega (arith, k))
put_within (suc p) q zero (z ∷ file) group xs e h k = absurd (omega (arith, e))
put_within (suc p) q (suc to) (z ∷ file) group xs e h k = ap (λ l. z ∷ l) (put_within p q to file group xs (omega (arith, e)) h (omega (arith, k)))

-- a chunk of a part
pub part_chunk : (p q n count : ℕ) (xs : List ℕ) → q + n ≤ count → chunk q n (chunk p count xs) ≡ chunk (p + q) n xs
part_chunk p q n count xs h =
    let all : count ≡ q + (count - q) = omega (arith, h) in
    ap (λ k. chunk q n (chunk p k xs)) all ∙ ap (take n) (drop-take q (count - q) (drop p xs))
    ∙ take-take n (count - q) (drop q (drop p xs)) (omega (arith, h)) ∙ ap (take n) (drop-drop q p xs)

-- the length of a blend's span, in bytes
pub span_length : (b : Span) (w : Width) → b.segments.size ≡ width_bytes w → IsBlend b → b.length ≡ width_bytes w * b.stop
span_length b w size is =
    let before : (b.stop - b.body.start - 1) * b.distance ≡ (b.stop - 1) * width_bytes w =
    ap (λ n. (b.stop - n - 1) * b.distance) is.first ∙ ap (λ n. (b.stop - 0 - 1) * n) (is.apart ∙ size) ∙ ap (λ n. n * width_bytes w) (omega arith) in
    let last : b.segments.fields * b.segments.size ≡ 1 * width_bytes w = ap (λ n. n * b.segments.size) is.alone ∙ ap (λ n. 1 * n) size in
    let count : (b.stop - 1) + 1 ≡ b.stop = omega (arith, b.span.some) in
    b.span.length ∙ omega (arith, before, last) ∙ sym (add-mul (b.stop - 1) 1 (width_bytes w)) ∙ ap (λ n. n * width_bytes w) count ∙ mul_comm b.stop (width_bytes w)

module _ (m : Memory) (b : Span) (w : Width) (size : b.segments.size ≡ width_bytes w) (is : IsBlend b)
    (file : List ℕ) (whole : VLENB * b.segments.register + width_bytes w * b.stop ≤ length file) where
  abbrev k : ℕ
  k = width_bytes w

  abbrev p : ℕ
  p = VLENB * b.segments.register

  -- the elements in the registers
  abbrev pub group_bytes : List ℕ
  group_bytes = chunk p (k * b.stop) file

  long : length group_bytes ≡ k * b.stop
  long = length-chunk p (k * b.stop) file whole

  one_field : {X : Type 0} (one : ℕ → X → ℕ → X) → Apart one b.segments.fields 0 b.stop → (x : X)
      → for_each (one 0) x 0 b.stop ≡ for_each (each_field one b.segments.fields) x b.body.start (b.stop - b.body.start)
  one_field one loose x =
      let n : ℕ = b.stop - b.body.start in
      let all : b.stop ≡ n = omega (arith, is.first) in
      let only : 0 + 1 ≡ b.segments.fields = omega (arith, is.alone) in
      ap (λ i. for_each (one 0) x i b.stop) (sym is.first) ∙ ap (for_each (one 0) x b.body.start) all
      ∙ ap (λ y. for_each (one 0) y b.body.start n) (sym (no_field one x b.body.start n))
      ∙ field_more one b.segments.fields 0 b.stop loose 0 (omega (arith, is.alone)) n b.body.start x (omega arith) (omega (arith, is.first))
      ∙ ap (λ f. for_each (each_field one f) x b.body.start n) only

  fits : (n : ℕ) → n < b.stop → k * n + k ≤ k * b.stop
  fits n h = omega (arith, mul-le-mul_left k h, mul-suc k n)

  place_is : (n : ℕ) → field_place (span_access b) 0 n ≡ p + k * n
  place_is n = omega (arith, ap (λ x. n * x) size, mul_comm n k)

  offset : (n : ℕ) → (n - b.body.start) * b.distance + 0 * b.segments.size ≡ k * n
  offset n =
      let all : n - b.body.start ≡ n = omega (arith, is.first) in
      ap (λ x. x * b.distance + 0 * b.segments.size) all ∙ ap (λ x. n * x + 0 * b.segments.size) (is.apart ∙ size) ∙ omega (arith, mul_comm n k)

  -- ---- bytes with the first elements written

  module _ (fill : Bool) (number : ℕ → ℕ) (base : List ℕ) where
    abbrev so_far : ℕ → ℕ → Bool
    so_far n e = is_changed (part_of b.body b.stop) fill false e && nat_lt e n

    abbrev made : ℕ → List ℕ
    made n = written k (so_far n) number base

    was : (n : ℕ) → Writes k (so_far n) number base (made n)
    was n = written_are k (so_far n) number base (bytes_positive w)

    then_made : (n : ℕ) (new : List ℕ) → Writes k (so_far n) number base new → new ≡ made n
    then_made n new h = writes_are k (so_far n) number base new (bytes_positive w) h

    all_made : (new : List ℕ) → Writes k (is_changed (part_of b.body b.stop) fill false) number base new → new ≡ made b.stop
    all_made new h =
        let all = is_changed (part_of b.body b.stop) fill false in
        writes_are k all number base new (bytes_positive w) h
        ∙ sym (writes_are k all number base (made b.stop) (bytes_positive w)
        (body_ends k (part_of b.body b.stop) fill number base (made b.stop) b.stop (omega arith) (was b.stop)))

  -- ---- a load

  module _ (fill : Bool) (bytes : List ℕ) (read : bytes ≡ bytes_at m b.address b.length) (below : (j : ℕ) → Fits w8 (get_or bytes j 0)) where
    abbrev pub read_number : ℕ → ℕ
    read_number e = result_or_ones (part_of b.body b.stop) (λ i. element k bytes i) (ones w) e

    abbrev loaded : ℕ → List ℕ
    loaded n = made fill read_number group_bytes n

    in_file : (n : ℕ) (xs : List ℕ) → n < b.stop → length xs ≡ k
        → put_chunk (field_place (span_access b) 0 n) (put_chunk p file (loaded n)) xs ≡ put_chunk p file (put_chunk (k * n) (loaded n) xs)
    in_file n xs h e =
        put_within p (k * n) (field_place (span_access b) 0 n) file (loaded n) xs (place_is n)
        (omega (arith, e, (was fill read_number group_bytes n).same_length, long, fits n h)) (omega (arith, (was fill read_number group_bytes n).same_length, long, whole))

    bytes_there : (n : ℕ) → n < b.stop → bytes_low_first 0 k (element k bytes n) ≡ bytes_at m (field_address (span_access b) 0 n) b.segments.size
    bytes_there n h =
        let one : 0 < b.segments.fields = omega (arith, is.alone) in
        let read_one : chunk (k * n) k bytes ≡ bytes_at m (field_address (span_access b) 0 n) b.segments.size =
        ap (λ x. chunk x k bytes) (sym (offset n)) ∙ ap (λ x. chunk ((n - b.body.start) * b.distance + 0 * b.segments.size) x bytes) (sym size)
        ∙ field_read b m bytes n 0 (omega (arith, is.first)) h one read in
        number_back k (chunk (k * n) k bytes) (ap length read_one ∙ length-bytes_at m (field_address (span_access b) 0 n) b.segments.size ∙ size) (below_from_Fits w8 (chunk (k * n) k bytes) (chunk-fits w8 (k * n) k bytes below)) ∙ read_one

    loads_next : (n : ℕ) → n < b.stop → load_field m (span_access b) fill 0 (put_chunk p file (loaded n)) n ≡ put_chunk p file (loaded (n + 1))
    loads_next n h =
        let a = span_access b in
        let at = field_place a 0 n in
        elim (cases_Bool (is_enabled b.body n)) [
          | inl on ↦
              let xs : List ℕ = bytes_low_first 0 k (element k bytes n) in
              let next = step_result k (part_of b.body b.stop) fill n (λ i. element k bytes i) (ones w) group_bytes (loaded n) (put_chunk (k * n) (loaded n) xs) (omega arith) h
              (was fill read_number group_bytes n) (omega (arith, long, fits n h)) on refl in
              sym (load_active m a fill 0 n at (put_chunk p file (loaded n)) xs on refl (bytes_there n h))
              ∙ in_file n xs h (length-bytes 0 k (element k bytes n)) ∙ ap (put_chunk p file) (then_made fill read_number group_bytes (n + 1) _ next)
          | inr off ↦ elim (cases_Bool fill) [
            | inl filled ↦
                let xs : List ℕ = bytes_low_first 0 k (ones w) in
                let next = step_ones k (part_of b.body b.stop) fill n (λ i. element k bytes i) (ones w) group_bytes (loaded n) (put_chunk (k * n) (loaded n) xs) (omega arith) h
                (was fill read_number group_bytes n) (omega (arith, long, fits n h)) off filled refl in
                sym (load_filled m a fill 0 n at (put_chunk p file (loaded n)) xs off filled refl (ones_bytes w ∙ ap (λ x. replicate x 255) (sym size)))
                ∙ in_file n xs h (length-bytes 0 k (ones w)) ∙ ap (put_chunk p file) (then_made fill read_number group_bytes (n + 1) _ next)
            | inr kept ↦
                let next = step_off k (part_of b.body b.stop) fill n (λ i. element k bytes i) (ones w) group_bytes (loaded n) (loaded n) (omega arith) h
                (was fill read_number group_bytes n) off kept refl in
                sym (load_kept m a fill 0 n (put_chunk p file (loaded n)) off kept) ∙ ap (put_chunk p file) (then_made fill read_number group_bytes (n + 1) _ next)
          ]
        ]

    loads_to : for_each (load_field m (span_access b) fill 0) file 0 b.stop ≡ put_chunk p file (loaded b.stop)
    loads_to =
        steps_to (load_field m (span_access b) fill 0) file (λ n. put_chunk p file (loaded n)) b.stop
        (sym (put_same p (k * b.stop) file) ∙ ap (put_chunk p file) (then_made fill read_number group_bytes 0 group_bytes (body_begins k (part_of b.body b.stop) fill read_number group_bytes)))
        loads_next b.stop (omega arith)

    -- a blend of the elements has the result of the loop
    pub blend_loaded : (new : List ℕ) → Writes k (is_changed (part_of b.body b.stop) fill false) read_number group_bytes new
        → put_chunk p file new ≡ registers_loaded m (place_in b.segments) file (span_transfers b fill)
    blend_loaded new h =
        let a = span_access b in
        ap (put_chunk p file) (all_made fill read_number group_bytes new h) ∙ sym loads_to
        ∙ one_field (load_field m a fill) (loads_apart m a fill b.stop b.span.room.room b.segments.fields) file
        ∙ fields_loaded m a fill (b.stop - b.body.start) b.body.start file

  -- ---- a store

  module _ (bytes : List ℕ) (count : length bytes ≡ b.length) (below : (j : ℕ) → Fits w8 (get_or group_bytes j 0)) where
    abbrev pub write_number : ℕ → ℕ
    write_number e = result_or_ones (part_of b.body b.stop) (λ i. element k group_bytes i) (ones w) e

    abbrev stored_in : ℕ → List ℕ
    stored_in n = made false write_number bytes n

    span_fits : (n : ℕ) → n < b.stop → k * n + k ≤ length bytes
    span_fits n h =
        omega (arith, count, offset n, size, field_inside b n 0 (omega (arith, is.first)) h (omega (arith, is.alone)))

    elements_there : (n : ℕ) → n < b.stop → bytes_low_first 0 k (element k group_bytes n) ≡ chunk (field_place (span_access b) 0 n) b.segments.size file
    elements_there n h =
        let one : length (chunk (k * n) k group_bytes) ≡ k = length-chunk (k * n) k group_bytes (omega (arith, long, fits n h)) in
        number_back k (chunk (k * n) k group_bytes) one (below_from_Fits w8 (chunk (k * n) k group_bytes) (chunk-fits w8 (k * n) k group_bytes below))
        ∙ part_chunk p (k * n) k (k * b.stop) file (fits n h)
        ∙ ap (λ x. chunk x k file) (sym (place_is n)) ∙ ap (λ x. chunk (field_place (span_access b) 0 n) x file) (sym size)

    stores_next : (n : ℕ) → n < b.stop
        → store_field file (span_access b) 0 (put_bytes m b.address (stored_in n)) n ≡ put_bytes m b.address (stored_in (n + 1))
    stores_next n h =
        let a = span_access b in
        elim (cases_Bool (is_enabled b.body n)) [
          | inl on ↦
              let xs : List ℕ = bytes_low_first 0 k (element k group_bytes n) in
              let next = step_result k (part_of b.body b.stop) false n (λ i. element k group_bytes i) (ones w) bytes (stored_in n) (put_chunk (k * n) (stored_in n) xs) (omega arith) h
              (was false write_number bytes n) (span_fits n h) on refl in
              let at : field_address a 0 n ≡ b.address + k * n =
              field_begins b n 0 (omega (arith, is.first)) h (omega (arith, is.alone)) ∙ ap (λ x. b.address + x) (offset n) in
              sym (store_active file a 0 n (field_address a 0 n) (put_bytes m b.address (stored_in n)) xs on refl (elements_there n h))
              ∙ ap (λ x. put_bytes (put_bytes m b.address (stored_in n)) x xs) at
              ∙ sym (put_part m b.address (k * n) (stored_in n) xs
              (omega (arith, length-bytes 0 k (element k group_bytes n), (was false write_number bytes n).same_length, span_fits n h)))
              ∙ ap (put_bytes m b.address) (then_made false write_number bytes (n + 1) _ next)
          | inr off ↦
              let next = step_off k (part_of b.body b.stop) false n (λ i. element k group_bytes i) (ones w) bytes (stored_in n) (stored_in n) (omega arith) h
              (was false write_number bytes n) off refl refl in
              sym (store_kept file a 0 n (put_bytes m b.address (stored_in n)) off) ∙ ap (put_bytes m b.address) (then_made false write_number bytes (n + 1) _ next)
        ]

    stores_to : for_each (store_field file (span_access b) 0) (put_bytes m b.address bytes) 0 b.stop ≡ put_bytes m b.address (stored_in b.stop)
    stores_to =
        steps_to (store_field file (span_access b) 0) (put_bytes m b.address bytes) (λ n. put_bytes m b.address (stored_in n)) b.stop
        (ap (put_bytes m b.address) (then_made false write_number bytes 0 bytes (body_begins k (part_of b.body b.stop) false write_number bytes))) stores_next b.stop (omega arith)

    pub blend_stored : (new : List ℕ) → Writes k (is_changed (part_of b.body b.stop) false false) write_number bytes new
        → put_bytes m b.address new
        ≡ memory_stored (put_bytes m b.address bytes) (place_in b.segments) file (span_transfers b false)
    blend_stored new h =
        let a = span_access b in
        ap (put_bytes m b.address) (all_made false write_number bytes new h) ∙ sym stores_to
        ∙ one_field (store_field file a)
        (stores_apart file a 0 b.stop (λ f h i j less some low order end. fields_apart b f h i j less some (omega (arith, is.first)) order end))
        (put_bytes m b.address bytes)
        ∙ fields_stored file a (b.stop - b.body.start) b.body.start (put_bytes m b.address bytes)

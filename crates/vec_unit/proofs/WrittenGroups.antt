-- Groups that are written as elements in the list of all registers' bytes.
use Rattle.std.proofs.Common.{ℕ, suc, ◌+◌, ◌-◌, ◌*◌, ◌/◌, ◌%◌, ◌^◌, ◌<◌, ◌≤◌, ◌≡◌, List, length, get_or, Bool, true, false, ◌&&◌, ◌||◌, nat_le, not, refl, sym, ap, ◌∙◌, arith, inl, inr, le-leb, append-nil, min}
use Rattle.std.proofs.lemmas.Bool.{cases_lt, false_from_ne_true, lt-leb}
use Rattle.std.proofs.lemmas.Grind.{div_ceil_times, same_number_lists}
use Rattle.std.proofs.lemmas.List.{drop_all, take_all}
use Rattle.std.proofs.lemmas.Simd.{length-put_chunk, put_chunk_is, get_or-put_chunk_below, get_or-put_chunk_at, get_or-put_chunk_above, length-chunk, get_or-chunk}
use Rattle.std.proofs.Math.Nat.{mul-le-mul_left, mul-suc, mul-add, mul-zero, mul_assoc, mul_comm, div-add-mod, div-lt_iff_lt-mul, le-div_iff_mul-le, mod-lt, le_of_mul-le-mul_left, lt_of_mul-lt-mul_left}
use lib.Lanes.{number_l, chunk, put_chunk}
use mir.Val.{bits}
use Rattle.rv_model.specs.declared.instructions.operations.BinaryOp.{BinaryOp}
use Rattle.rv_model.specs.declared.instructions.source.Source.{Source}
use Rattle.rv_model.specs.declared.instructions.source.Source.TheVariants as source
use Rattle.rv_model.specs.declared.scalar.Scalar.{Scalar}
use Rattle.rv_model.specs.elements.Arithmetic.{binary_result, second_element, with_results}
use Rattle.rv_model.specs.vector.Groups.{GroupType, width_bytes, group_of, registers}
use Rattle.rv_model.specs.elements.Elements.{Body, element, in_body, is_active, is_changed, is_enabled, result_or_ones}
use Rattle.rv_model.specs.elements.Formulas.{formula, has_unsigned_immediate, ones, wrap}
use Rattle.rv_model.specs.lending.Writes.{Writes}
use Rattle.rv_model.proofs.element_lemmas.Arithmetic.{results_are}
use Rattle.rv_model.proofs.element_lemmas.Sets.{changed_inside, to_end}
use Rattle.rv_model.proofs.element_lemmas.Writes.{writes_same}
use Rattle.lane_arith.proofs.ChunkWrites.{chunk_of_chunk, few_in_chunk, place}
use Rattle.lane_arith.proofs.MaskBits.{count_positive}
use Rattle.vec_unit.specs.InPlace.{number_from, second_in, second_number, test_from, in_place_result}

-- ---- all registers as one group

pub all_bytes : (file : List ℕ) → length file ≡ 1024 → chunk 0 1024 file ≡ file
all_bytes file long = take_all 1024 file (omega arith)

pub all_put : (file new : List ℕ) → length new ≡ length file → put_chunk 0 file new ≡ new
all_put file new long = rw (put_chunk_is 0 file new (omega arith), drop_all (length new) file (omega arith), append-nil new) refl

-- ---- the operands

element_of_group : (k n r count i : ℕ) (file : List ℕ) → k * n ≡ 32 → k * i + k ≤ 32 * count
    → element k file (n * r + i) ≡ element k (chunk (32 * r) (32 * count) file) i
element_of_group k n r count i file e h =
    sym (ap (number_l 256) (chunk_of_chunk (32 * r) (32 * count) (k * i) k file h ∙ ap (λ x. chunk x k file) (sym (place k n r i e))))

second_is : (g : GroupType) (n : ℕ) (unsigned : Bool) (from : Source) (file : List ℕ) (x : Scalar) (i : ℕ) → width_bytes g.width * n ≡ 32
    → width_bytes g.width * i + width_bytes g.width ≤ 32 * registers g.emul
    → second_in (width_bytes g.width) n from (second_number unsigned from x % 2 ^ bits g.width) file i ≡ second_element g unsigned from file x i
second_is g n unsigned (source.V vs1) file x i e h = element_of_group (width_bytes g.width) n vs1 (registers g.emul) i file e h
second_is g n unsigned _ file x i e h = refl

pub result_is : (g : GroupType) (n : ℕ) (op : BinaryOp) (vs2 : ℕ) (from : Source) (number : ℕ) (file : List ℕ) (x : Scalar) (i : ℕ)
    → number ≡ second_number (has_unsigned_immediate op) from x
    → width_bytes g.width * n ≡ 32 → width_bytes g.width * i + width_bytes g.width ≤ 32 * registers g.emul
    → in_place_result g.width n op vs2 from number file i ≡ binary_result g op vs2 from file x i
result_is g n op vs2 from number file x i is e h =
    let k : ℕ = width_bytes g.width in
    let b = second_in k n from (number % 2 ^ bits g.width) file i in
    ap (λ a. wrap g.width (formula op g.width a b)) (element_of_group k n vs2 (registers g.emul) i file e h)
    ∙ ap (λ c. wrap g.width (formula op g.width (element k (group_of file vs2 g.emul) i) c))
    (ap (λ z. second_in k n from (z % 2 ^ bits g.width) file i) is ∙ second_is g n (has_unsigned_immediate op) from file x i e h)

-- ---- the number of registers that contain the body

pub few_elements : (k n size : ℕ) → 0 < k → k * n ≡ 32 → size ≤ 8 → n * size ≤ 256
few_elements k n size some e small =
    let few : n ≤ 32 = few_in_chunk k n some e in
    let most : n * size ≤ n * 8 = mul-le-mul_left n small in
    omega arith

pub within : (k n size end : ℕ) → 0 < k → k * n ≡ 32 → k * end ≤ 32 * size → end ≤ n * size
within k n size end some e room =
    let all : k * end ≤ k * (n * size) = rw (← mul_assoc k n size, e) room in
    le_of_mul-le-mul_left all some

pub covered : (k n size end : ℕ) → 0 < k → k * n ≡ 32 → k * end ≤ 32 * size → end ≤ n * min size (end / n + min 1 (end % n))
covered k n size end some e room =
    let by_size : end ≤ n * size = within k n size end some e room in
    let positive : 0 < n = count_positive k n e in
    let by_count = (div_ceil_times end n positive).0 in
    least (n * size) (rw (mul_comm (end / n + min 1 (end % n)) n) at by_count) by_size
  where
    least : (s : ℕ) → end ≤ n * (end / n + min 1 (end % n)) → end ≤ n * size → end ≤ n * min size (end / n + min 1 (end % n))
    least s a b = elim (cases_lt size (end / n + min 1 (end % n))) [
      | inl low ↦ (let m : min size (end / n + min 1 (end % n)) ≡ size = omega arith in rw m b)
      | inr high ↦ (let m : min size (end / n + min 1 (end % n)) ≡ end / n + min 1 (end % n) = omega arith in rw m a)
    ]

pub all_covered : (k n size end count : ℕ) → 0 < k → k * n ≡ 32 → 32 * size ≡ k * count → end ≡ count → end ≡ n * size
all_covered k n size end count some e whole is =
    let covers : end ≤ n * size = within k n size end some e (rw (is, whole) (omega arith)) in
    let full : k * (n * size) ≤ k * end = rw (← mul_assoc k n size, e, is, whole) (omega arith) in
    let least : n * size ≤ end = le_of_mul-le-mul_left full some in
    omega (arith, covers, least)

-- ---- written elements

module _ (k n vd count : ℕ) (changes : ℕ → Bool) (number : ℕ → ℕ) (file new : List ℕ) (e : k * n ≡ 32) (room : 32 * (vd + count) ≤ length file)
    (was : Writes k (test_from (n * vd) changes) (number_from (n * vd) number) file new) where
  abbrev part : List ℕ
  part = chunk (32 * vd) (32 * count) new

  abbrev before : List ℕ
  before = chunk (32 * vd) (32 * count) file

  long_part : length part ≡ 32 * count
  long_part = length-chunk (32 * vd) (32 * count) new (omega (arith, was.same_length))

  long_before : length before ≡ 32 * count
  long_before = length-chunk (32 * vd) (32 * count) file (omega arith)

  pub group_written : Writes k changes number before part
  group_written = record {
    same_length = long_part ∙ sym long_before;
    bytes = λ i m h l.
        let short : k * i + m < 32 * count = omega (arith, long_before, l) in
        let here : k * (n * vd + i) + m ≡ 32 * vd + (k * i + m) = omega (arith, place k n vd i e) in
        let starts : nat_le (n * vd) (n * vd + i) ≡ true = le-leb (n * vd) (n * vd + i) (omega arith) in
        let back : n * vd + i - n * vd ≡ i = omega arith in
        let known = was.bytes (n * vd + i) m h (omega arith) in
        rw (get_or-chunk (32 * vd) (32 * count) new (k * i + m) 0 short, get_or-chunk (32 * vd) (32 * count) file (k * i + m) 0 short, ← here)
        (rw (starts, back) at known);
  }

  -- a byte outside of the changed elements is unchanged
  kept : (j : ℕ) → 0 < k → j < length file → test_from (n * vd) changes (j / k) ≡ false → get_or new j 0 ≡ get_or file j 0
  kept j some l stays =
      let at_j : k * (j / k) + j % k ≡ j = div-add-mod j k in
      let known = was.bytes (j / k) (j % k) (mod-lt j some) (rw at_j l) in
      rw (at_j, stays) at known

  element_below : (j : ℕ) → j < 32 * vd → 0 < k → j / k < n * vd
  element_below j low some = (div-lt_iff_lt-mul some).1 (omega (arith, place k n vd 0 e, mul-zero k, mul_comm k (n * vd), low))

  element_above : (j : ℕ) → 32 * (vd + count) ≤ j → 0 < k → n * (vd + count) ≤ j / k
  element_above j high some = (le-div_iff_mul-le some).1 (omega (arith, place k n (vd + count) 0 e, mul-zero k, mul_comm k (n * (vd + count)), high))

  past : (j : ℕ) → ((i : ℕ) → n * count ≤ i → changes i ≡ false) → n * (vd + count) ≤ j → test_from (n * vd) changes j ≡ false
  past j none h =
      let starts : nat_le (n * vd) j ≡ true = le-leb (n * vd) j (omega (arith, mul-add n vd count)) in
      rw starts (none (j - n * vd) (omega (arith, mul-add n vd count)))

  pub group_replaced : 0 < k → ((i : ℕ) → n * count ≤ i → changes i ≡ false) → new ≡ put_chunk (32 * vd) file part
  group_replaced some none =
      same_number_lists new (put_chunk (32 * vd) file part) (was.same_length ∙ sym (length-put_chunk (32 * vd) file part))
      (λ j h. elim (cases_lt j (32 * vd)) [
        | inl low ↦
            kept j some (omega (arith, was.same_length, h)) (rw (lt-leb (n * vd) (j / k) (element_below j low some)) refl)
            ∙ sym (get_or-put_chunk_below (32 * vd) file part j 0 low)
        | inr from ↦ elim (cases_lt j (32 * (vd + count))) [
          | inl within ↦
              let i : ℕ = j - 32 * vd in
              let is : 32 * vd + i ≡ j = omega arith in
              let short : i < 32 * count = omega arith in
              rw (← is)
              (sym (get_or-put_chunk_at (32 * vd) file part i 0 (omega (arith, long_part, short)) (omega (arith, long_part, room))
              ∙ get_or-chunk (32 * vd) (32 * count) new i 0 short))
          | inr high ↦
              kept j some (omega (arith, was.same_length, h)) (past (j / k) none (element_above j high some))
              ∙ sym (get_or-put_chunk_above (32 * vd) file part j 0 (omega (arith, long_part, high)))
        ]
      ])

-- the tail isn't filled, or there is no tail
same_tail : (a fill o : Bool) (end n i : ℕ) → (fill ≡ true → end ≡ n) → i < n → (a || (o || (fill && nat_le end i))) ≡ (a || (o || (false && nat_le end i)))
same_tail a false o end n i h l = refl
same_tail a true o end n i h l =
    let e : end ≡ n = h refl in
    rw (lt-leb end i (omega (arith, e))) refl

-- no element past the body changes if the tail isn't filled
unchanged : (body : Body) (fill_masked_off : Bool) (i : ℕ) → body.end ≤ i → is_changed body fill_masked_off false i ≡ false
unchanged body fill_masked_off i h =
    false_from_ne_true (is_changed body fill_masked_off false i)
    (λ changes.
    let inside = changed_inside (in_body body i) (is_enabled body i) fill_masked_off (nat_le body.end i) changes in
    absurd (omega (arith, h, to_end body.start body.end i inside)))

-- ---- all results

pub turned_results : (g : GroupType) (n vd number : ℕ) (op : BinaryOp) (vs2 : ℕ) (from : Source) (x : Scalar) (body : Body)
    (fill_masked_off fill_tail : Bool) (count : ℕ) (file new : List ℕ)
    → 0 < width_bytes g.width → width_bytes g.width * n ≡ 32 → length file ≡ 1024 → vd + registers g.emul ≤ 32
    → number ≡ second_number (has_unsigned_immediate op) from x
    → width_bytes g.width * body.end ≤ 32 * registers g.emul → 32 * registers g.emul ≡ width_bytes g.width * count → (fill_tail ≡ true → body.end ≡ count)
    → Writes (width_bytes g.width) (test_from (n * vd) (is_changed body fill_masked_off false))
    (number_from (n * vd) (result_or_ones body (in_place_result g.width n op vs2 from number file) (ones g.width))) file new
    → new ≡ with_results g vd body fill_masked_off fill_tail (binary_result g op vs2 from file x) file
turned_results g n vd number op vs2 from x body fill_masked_off fill_tail count file new some e long inside is room whole tail was =
    let k : ℕ = width_bytes g.width in
    let regs : ℕ = registers g.emul in
    let known : ℕ → ℕ = in_place_result g.width n op vs2 from number file in
    let changes : ℕ → Bool = is_changed body fill_masked_off false in
    let numbers : ℕ → ℕ = result_or_ones body known (ones g.width) in
    let fits : 32 * (vd + regs) ≤ length file = omega arith in
    let written = group_written k n vd regs changes numbers file new e fits was in
    let covers : body.end ≤ n * regs = within k n regs body.end some e room in
    group_replaced k n vd regs changes numbers file new e fits was some (λ i h. unchanged body fill_masked_off i (omega (arith, covers, h)))
    ∙ results_are g vd body fill_masked_off fill_tail known (binary_result g op vs2 from file x) file (group_of new vd g.emul)
    (λ i h.
    let up : k * suc i ≤ k * body.end = mul-le-mul_left k h in
    result_is g n op vs2 from number file x i is e (omega (arith, mul-suc k i, up, room)))
    (writes_same k changes (is_changed body fill_masked_off fill_tail) numbers numbers (group_of file vd g.emul) (group_of new vd g.emul) written
    (λ i h.
    let l : k * i < k * count = omega (arith, long_before k n vd regs changes numbers file new e fits was, whole, h) in
    same_tail (is_active body i) fill_tail (fill_masked_off && (in_body body i && not (is_enabled body i))) body.end count i tail (lt_of_mul-lt-mul_left k l)) (λ i h. refl))

-- A loop that packs the elements with a set mask bit, and then fills the tail.
use Rattle.std.proofs.Common.{ℕ, ◌+◌, ◌*◌, ◌<◌, ◌≤◌, ◌≡◌, List, [], ◌∷◌, ◌++◌, length, map, slice_index, Bool, true, false, cond, not, ◌&&◌, ◌||◌, nat_lt, refl, sym, ap, subst, ◌∙◌, arith, append-nil, lt-ltb}
use Rattle.std.proofs.lemmas.Bool.{cases_lt}
use Rattle.std.proofs.lemmas.Bool.Decides.{nat_tests}
use Rattle.std.proofs.lemmas.List.{get_or_append_left, length-append, length-map, map-append}
use Rattle.std.proofs.lemmas.List.Elements.{filter-append}
use Rattle.std.proofs.lemmas.List.Filters.{length-filter_both}
use Rattle.std.proofs.lemmas.List.FromFn.{length-range_with_len}
use Rattle.std.proofs.Math.Nat.{mul-le-mul_left}
use Rattle.std.proofs.Math.Seq.{get_or-append_seam}
use Rattle.std.specs.Int.{bytes_low_first}
use Rattle.std.specs.List.{filter, range_with_len}
use lib.Lanes.{put_chunk}
use Rattle.rv_model.specs.vector.Groups.{GroupType, width_bytes, group_of, with_group}
use Rattle.rv_model.specs.elements.Elements.{in_range, mask_bit}
use Rattle.rv_model.specs.elements.Formulas.{ones}
use Rattle.rv_model.specs.elements.PermutationResults.{with_packed, is_packed_or_filled, packed, packed_or_ones}
use Rattle.rv_model.specs.lending.Writes.{Writes}
use Rattle.rv_model.proofs.element_lemmas.Ranges.{range_more}
use Rattle.rv_model.proofs.element_lemmas.Widths.{bytes_positive}
use Rattle.rv_model.proofs.element_lemmas.Writes.{ends, step_written, writes_are, writes_same, writes_then}

-- ---- one element after another

-- whether element j of the destination takes a packed element
abbrev is_packed : List ℕ → ℕ → Bool
is_packed numbers j = nat_lt j (length numbers)

below : (n e : ℕ) → nat_lt e n ≡ true → e < n
below n e h = grind (arith, nat_tests)

module _ (select : List ℕ) (element : ℕ → ℕ) where
  packed_next : (n : ℕ) (b : Bool) → mask_bit select n ≡ b → packed select element (n + 1) ≡ packed select element n ++ map element (cond b (n ∷ []) [])
  packed_next n b h = search (arith, nat_tests, filter-append, map-append, range_more)

  -- at most n of n elements are packed
  pub packed_few : (n : ℕ) → length (packed select element n) ≤ n
  packed_few n =
      let indices = range_with_len 0 n in
      let test = mask_bit select in
      omega (arith, length-map (filter test indices) element, length-filter_both test (λ i. not (test i)) (λ i. refl) indices, length-range_with_len 0 n)

  -- `count` elements before the index i are packed, and all others are unchanged
  pub record PackedTo (k i count : ℕ) (old new : List ℕ) : Type 0 where
    pub many : count ≡ length (packed select element i)
    pub few : count ≤ i
    pub writes : Writes k (is_packed (packed select element i)) (slice_index (packed select element i)) old new

  -- element i isn't packed
  pub pack_passed : (k i count : ℕ) (old mid : List ℕ) → mask_bit select i ≡ false → PackedTo k i count old mid → PackedTo k (i + 1) count old mid
  pack_passed k i count old mid h was =
      let same : packed select element i ≡ packed select element (i + 1) = sym (packed_next i false h ∙ append-nil (packed select element i)) in
      record {
        many = was.many ∙ ap length same;
        few = omega (arith, was.few);
        writes = subst (λ (l : List ℕ). Writes k (is_packed l) (slice_index l) old mid) same was.writes;
      }

  -- element i is packed after the earlier ones
  pub pack_taken : (k i count : ℕ) (old mid new : List ℕ) → mask_bit select i ≡ true → k * count + k ≤ length old → PackedTo k i count old mid
      → new ≡ put_chunk (k * count) mid (bytes_low_first 0 k (element i)) → PackedTo k (i + 1) (count + 1) old new
  pack_taken k i count old mid new h fits was e =
      let before : List ℕ = packed select element i in
      let more : List ℕ = before ++ element i ∷ [] in
      let is : more ≡ packed select element (i + 1) = sym (packed_next i true h) in
      let long : length more ≡ count + 1 = omega (arith, length-append before (element i ∷ []), was.many) in
      let here : slice_index more count ≡ element i = ap (slice_index more) was.many ∙ get_or-append_seam before (element i) [] 0 in
      let kept : Writes k (λ x. is_packed more x && nat_lt x count) (slice_index more) old mid =
      writes_same k (is_packed before) (λ x. is_packed more x && nat_lt x count) (slice_index before) (slice_index more) old mid was.writes
      (λ x l. (grind (arith, nat_tests)) ∙ ap (nat_lt x) was.many)
      (λ x t. get_or_append_left before (element i ∷ []) 0 x (below (length before) x t)) in
      let step : Writes k (λ x. is_packed more x && nat_lt x (count + 1)) (slice_index more) old new =
      step_written k (is_packed more) (slice_index more) old mid new count kept (lt-ltb count (length more) (omega (arith, long))) fits
      (e ∙ ap (λ n. put_chunk (k * count) mid (bytes_low_first 0 k n)) (sym here)) in
      let all : Writes k (is_packed more) (slice_index more) old new =
      ends k (is_packed more) (slice_index more) old new (count + 1) step (λ x t. omega (arith, below (length more) x t, long)) in
      record {
        many = sym long ∙ ap length is;
        few = omega (arith, was.few);
        writes = subst (λ (l : List ℕ). Writes k (is_packed l) (slice_index l) old new) is all;
      }

-- ---- the tail, up to the last of n elements

module _ (k end n : ℕ) (numbers : List ℕ) (ones : ℕ) where
  joined : (p l t : Bool) → t ≡ true → (p || (true && l)) ≡ (p || (l && t))
  joined p l t h = search (arith, nat_tests)

  apart : (e : ℕ) → length numbers ≤ end → nat_lt e (length numbers) ≡ true → in_range end n e ≡ false
  apart e few h = grind (arith, nat_tests)

  one_of : (p r : Bool) (x : ℕ) → (p ≡ true → r ≡ false) → (p || r) ≡ true → cond p x ones ≡ cond r ones x
  one_of p r x only h = search (arith, nat_tests)

  pub packed_then_filled : (old mid new : List ℕ) → 0 < k → length old ≡ k * n → length numbers ≤ end
      → Writes k (is_packed numbers) (slice_index numbers) old mid
      → Writes k (in_range end n) (λ e. ones) mid new
      → Writes k (is_packed_or_filled numbers end true) (packed_or_ones numbers ones) old new
  packed_then_filled old mid new positive long few first second = search (arith, cases_lt, joined, mul-le-mul_left, writes_same, writes_then)

-- the registers after packing and filling
pub packed_are : (g : GroupType) (vd end : ℕ) (fill_tail : Bool) (numbers file new : List ℕ)
    → Writes (width_bytes g.width) (is_packed_or_filled numbers end fill_tail) (packed_or_ones numbers (ones g.width)) (group_of file vd g.emul) new
    → with_group file vd new ≡ with_packed g vd end fill_tail numbers file
unfolding with_packed
packed_are g vd end fill_tail numbers file new was = search (arith, nat_tests, bytes_positive, writes_are)

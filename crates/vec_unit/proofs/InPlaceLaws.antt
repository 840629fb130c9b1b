-- Replacement of registers one after another.
use Rattle.std.proofs.Common.{ℕ, suc, ◌+◌, ◌-◌, ◌*◌, ◌/◌, ◌%◌, ◌^◌, ◌<◌, ◌≤◌, ◌≡◌, List, length, get_or, Bool, true, false, cond, ◌&&◌, ◌||◌, nat_lt, nat_le, refl, sym, ap, ◌∙◌, arith, inl, inr, le-leb, le-ltb, not, eqb}
use Rattle.std.proofs.lemmas.Bool.{and_parts, and_right, leb-true, lt-leb}
use Rattle.std.proofs.lemmas.Bool.Decides.{nat_tests}
use Rattle.std.proofs.lemmas.Grind.{same_number_lists}
use Rattle.std.proofs.lemmas.Simd.{length-chunk, get_or-chunk}
use Rattle.std.proofs.Math.Nat.{mul-le-mul_left, mul-suc, mul-add}
use Rattle.std.specs.Int.{byte_at}
use lib.Lanes.{number_l, chunk, put_chunk}
use Rattle.rv_model.specs.declared.instructions.source.Source.{Source}
use Rattle.rv_model.specs.declared.instructions.source.Source.TheVariants as source
use Rattle.rv_model.specs.elements.Elements.{Body, element, in_body, is_active, is_changed, is_enabled, result_or_ones}
use Rattle.rv_model.specs.lending.Writes.{Writes}
use Rattle.rv_model.proofs.element_lemmas.Sets.{changed_inside, to_end}
use Rattle.rv_model.proofs.element_lemmas.Writes.{ends}
use Rattle.lane_arith.proofs.ChunkWrites.{chunk_more, place, step_any}
use Rattle.vec_unit.specs.InPlace.{IsReadBeforeWrite, SourceHasRegisters, SourceIsReadFirst, number_from, second_in, test_from}

-- ---- indices of the elements of a group's register

pub at_register : (n vd r i : ℕ) → n * (vd + r) + i ≡ n * vd + (n * r + i)
at_register n vd r i = omega (arith, mul-add n vd r)

in_group : (n vd r i : ℕ) → nat_le (n * vd) (n * (vd + r) + i) ≡ true
in_group n vd r i = le-leb (n * vd) (n * (vd + r) + i) (omega (arith, mul-add n vd r))

from_first : (n vd r i : ℕ) → n * (vd + r) + i - n * vd ≡ n * r + i
from_first n vd r i = omega (arith, mul-add n vd r)

-- ---- tests

-- enabled elements of the body change anyway
either_way : (m b l : Bool) → ((b && l) || ((m && (b && not l)) || false)) ≡ ((b && l) || ((m && b) || false))
either_way m b l = grind (arith, nat_tests)

-- an element that isn't replaced is unchanged
kept_element : (k : ℕ) (V : ℕ → Bool) (F : ℕ → ℕ) (old new : List ℕ) (e : ℕ) → Writes k V F old new → V e ≡ false → k * e + k ≤ length old
    → element k new e ≡ element k old e
kept_element k V F old new e w stays fits =
    let room : k * e + k ≤ length new = omega (arith, w.same_length) in
    ap (number_l 256)
    (same_number_lists (chunk (k * e) k new) (chunk (k * e) k old) (length-chunk (k * e) k new room ∙ sym (length-chunk (k * e) k old fits))
    (λ j h.
    let small : j < k = omega (arith, length-chunk (k * e) k new room, h) in
    get_or-chunk (k * e) k new j 0 small ∙ w.bytes e j small (omega arith)
    ∙ ap (λ b. cond b (byte_at j (F e)) (get_or old (k * e + j) 0)) stays
    ∙ sym (get_or-chunk (k * e) k old j 0 small)))

-- ---- the loop

module _ (k n vd registers : ℕ) (body : Body) (fill : Bool) (result : ℕ → ℕ) (ones : ℕ) (old : List ℕ) where
  abbrev changes : ℕ → Bool
  changes e = test_from (n * vd) (is_changed body fill false) e

  abbrev numbers : ℕ → ℕ
  numbers e = number_from (n * vd) (result_or_ones body result ones) e

  -- the first r registers are replaced
  abbrev Done : ℕ → List ℕ → Type 0
  Done r bytes = Writes k (λ e. changes e && nat_lt e (n * (vd + r))) numbers old bytes

  from_group : (e : ℕ) → changes e ≡ true → n * vd ≤ e
  from_group e h = leb-true (n * vd) e (and_parts (nat_le (n * vd) e) (is_changed body fill false (e - n * vd)) h).0

  before_end : (e : ℕ) → changes e ≡ true → e - n * vd < body.end
  before_end e h =
      let d : ℕ = e - n * vd in
      to_end body.start body.end d
      (changed_inside (in_body body d) (is_enabled body d) fill (nat_le body.end d)
      (and_parts (nat_le (n * vd) e) (is_changed body fill false (e - n * vd)) h).1)

  pub all_done : (bytes : List ℕ) → body.end ≤ n * registers → Done registers bytes → Writes k changes numbers old bytes
  all_done bytes covers was =
      ends k changes numbers old bytes (n * (vd + registers)) was
      (λ e h. omega (arith, mul-add n vd registers, from_group e h, before_end e h, covers))

  pub one_more : (r : ℕ) (mid new made : List ℕ) (active filled : ℕ) (chunk_result : ℕ → ℕ)
      → k * n ≡ 32 → 32 * (vd + r) + 32 ≤ length mid → new ≡ put_chunk (32 * (vd + r)) mid made → length made ≡ 32
      → ((i m : ℕ) → i < n → m < k → get_or made (k * i + m) 0
      ≡ cond (eqb (active / 2 ^ i % 2) 0)
      (cond (eqb (filled / 2 ^ i % 2) 0) (get_or (chunk (32 * (vd + r)) 32 mid) (k * i + m) 0) (byte_at m ones)) (byte_at m (chunk_result i)))
      → ((i : ℕ) → i < n → eqb (active / 2 ^ i % 2) 0 ≡ not (is_active body (n * r + i)))
      → ((i : ℕ) → i < n → eqb (filled / 2 ^ i % 2) 0 ≡ not (fill && in_body body (n * r + i)))
      → ((i : ℕ) → i < n → chunk_result i ≡ result (n * r + i))
      → Done r mid → Done (r + 1) new
  one_more r mid new made active filled chunk_result e room is long bytes actives filleds same was =
      let next : vd + (r + 1) ≡ vd + r + 1 = omega arith in
      rw next
      (chunk_more k n (vd + r) changes numbers old mid new was
      (step_any k n (vd + r) (λ i. is_active body (n * r + i)) (λ i. fill && in_body body (n * r + i)) changes numbers chunk_result ones mid
      new made active filled e room is long bytes actives filleds
      (λ i h. rw (in_group n vd r i, from_first n vd r i) (either_way fill (in_body body (n * r + i)) (is_enabled body (n * r + i))))
      (λ i h. rw (from_first n vd r i, same i h) refl)))

  not_yet : (r read i : ℕ) → r < registers → i < n → IsReadBeforeWrite read vd registers
      → (changes (n * read + (n * r + i)) && nat_lt (n * read + (n * r + i)) (n * (vd + r))) ≡ false
  not_yet r read i h l (inl above) =
      let far : n * vd ≤ n * read = mul-le-mul_left n above in
      and_right (changes (n * read + (n * r + i))) (nat_lt (n * read + (n * r + i)) (n * (vd + r)))
      (le-ltb (n * read + (n * r + i)) (n * (vd + r)) (omega (arith, mul-add n vd r)))
  not_yet r read i h l (inr below) =
      let far : n * (read + registers) ≤ n * vd = mul-le-mul_left n below in
      let near : n * suc r ≤ n * registers = mul-le-mul_left n h in
      let before : n * read + (n * r + i) < n * vd = omega (arith, mul-add n read registers, mul-suc n r) in
      rw (lt-leb (n * vd) (n * read + (n * r + i)) before) refl

  -- the operands' elements are unchanged when they are read
  pub operand : (r read i : ℕ) (mid : List ℕ) → k * n ≡ 32 → r < registers → i < n → IsReadBeforeWrite read vd registers
      → 32 * (read + registers) ≤ length old → Done r mid
      → element k mid (n * read + (n * r + i)) ≡ element k old (n * read + (n * r + i))
  operand r read i mid e h l reads room was =
      let low : k * suc i ≤ k * n = mul-le-mul_left k l in
      let here : k * (n * read + (n * r + i)) ≡ 32 * (read + r) + k * i =
      ap (λ x. k * x) (sym (at_register n read r i)) ∙ place k n (read + r) i e in
      kept_element k (λ x. changes x && nat_lt x (n * (vd + r))) numbers old mid (n * read + (n * r + i)) was
      (not_yet r read i h l reads) (omega (arith, mul-suc k i))

  pub second_operand : (from : Source) (number r i : ℕ) (mid : List ℕ) → k * n ≡ 32 → r < registers → i < n → SourceIsReadFirst from vd registers
      → SourceHasRegisters from registers → length old ≡ 1024 → Done r mid
      → second_in k n from number mid (n * r + i) ≡ second_in k n from number old (n * r + i)
  second_operand (source.V vs1) number r i mid e h l reads has long was = operand r vs1 i mid e h l reads (omega arith) was
  second_operand _ number r i mid e h l reads has long was = refl

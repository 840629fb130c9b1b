-- Loops over the body that write the elements that an instruction changes.
use Rattle.std.proofs.Common.{ℕ, ◌+◌, ◌*◌, ◌<◌, ◌≤◌, ◌≡◌, List, length, Bool, true, false, ◌&&◌, ◌||◌, nat_lt, nat_le, refl, arith, le-leb, lt-ltb}
use Rattle.std.specs.Prelude.{not}
use Rattle.std.proofs.lemmas.Bool.Decides.{nat_tests}
use Rattle.std.proofs.Math.Nat.{mul-le-mul_left, mul-suc}
use Rattle.std.specs.Int.{bytes_low_first}
use lib.Lanes.{put_chunk}
use Rattle.rv_model.specs.elements.Elements.{Body, in_range, in_body, is_enabled, is_active, is_changed, result_or_ones}
use Rattle.rv_model.specs.lending.Writes.{Writes}
use Rattle.rv_model.proofs.element_lemmas.Writes.{begins, ends, step_written, step_kept, writes_same}
use Rattle.rv_model.proofs.Choices.{of_bool}

-- the start of a range is at most each index of the range
pub from_start : (s v e : ℕ) → in_range s v e ≡ true → s ≤ e
from_start s v e h = grind (arith, nat_tests)

pub to_end : (s v e : ℕ) → in_range s v e ≡ true → e < v
to_end s v e h = grind (arith, nat_tests)

pub inside_range : (s v e : ℕ) → s ≤ e → e < v → in_range s v e ≡ true
inside_range s v e from to = rw (le-leb s e from, lt-ltb e v to) refl

-- Without the tail, only elements of the body change.
pub changed_inside : (b l o t : Bool) → ((b && l) || ((o && (b && not l)) || (false && t))) ≡ true → b ≡ true
changed_inside b l o t h = search (arith, nat_tests)

-- A loop's step at the index i of the body: the element is enabled, or it is masked off and filled, or masked off and unchanged.
module _ (k : ℕ) (body : Body) (fill_masked_off : Bool) (i : ℕ) (result : ℕ → ℕ) (ones : ℕ) (old mid new : List ℕ)
    (from : body.start ≤ i) (to : i < body.end) where
  abbrev changed : ℕ → Bool
  changed e = is_changed body fill_masked_off false e

  abbrev number : ℕ → ℕ
  number e = result_or_ones body result ones e

  inside : in_body body i ≡ true
  inside = inside_range body.start body.end i from to

  abbrev So : ℕ → List ℕ → Type 0
  So j bytes = Writes k (λ e. changed e && nat_lt e j) number old bytes

  pub step_result : So i mid → k * i + k ≤ length old → is_enabled body i ≡ true
      → new ≡ put_chunk (k * i) mid (bytes_low_first 0 k (result i)) → So (i + 1) new
  step_result was fits h e =
      let is : number i ≡ result i = rw (inside, h) refl in
      let does : changed i ≡ true = rw inside (rw h refl) in
      step_written k changed number old mid new i was does fits (rw is e)

  pub step_ones : So i mid → k * i + k ≤ length old → is_enabled body i ≡ false → fill_masked_off ≡ true
      → new ≡ put_chunk (k * i) mid (bytes_low_first 0 k ones) → So (i + 1) new
  step_ones was fits h off e =
      let is : number i ≡ ones = rw (inside, h) refl in
      step_written k changed number old mid new i was (rw (inside, h, off) refl) fits (rw is e)

  pub step_off : So i mid → is_enabled body i ≡ false → fill_masked_off ≡ false → new ≡ mid → So (i + 1) new
  step_off was h off e = search (arith, nat_tests, inside, step_kept)

-- The state before and after the loop.
module _ (k : ℕ) (body : Body) (fill_masked_off : Bool) (number : ℕ → ℕ) where
  in_it : (e : ℕ) → is_changed body fill_masked_off false e ≡ true → in_body body e ≡ true
  in_it e h = changed_inside (in_body body e) (is_enabled body e) fill_masked_off (nat_le body.end e) h

  pub body_begins : (xs : List ℕ) → Writes k (λ e. is_changed body fill_masked_off false e && nat_lt e body.start) number xs xs
  body_begins xs = begins k (is_changed body fill_masked_off false) number xs body.start (λ e h. from_start body.start body.end e (in_it e h))

  pub body_ends : (old new : List ℕ) (i : ℕ) → body.end ≤ i → Writes k (λ e. is_changed body fill_masked_off false e && nat_lt e i) number old new
      → Writes k (is_changed body fill_masked_off false) number old new
  body_ends old new i past was = ends k (is_changed body fill_masked_off false) number old new i was (λ e h. omega (arith, to_end body.start body.end e (in_it e h)))

-- A loop that writes one number to each index of a range.
module _ (k start end : ℕ) (number : ℕ → ℕ) where
  pub range_step : (old mid new : List ℕ) (i : ℕ) → start ≤ i → i < end → Writes k (λ e. in_range start end e && nat_lt e i) number old mid → k * i + k ≤ length old
      → new ≡ put_chunk (k * i) mid (bytes_low_first 0 k (number i)) → Writes k (λ e. in_range start end e && nat_lt e (i + 1)) number old new
  range_step old mid new i from to was fits e = step_written k (in_range start end) number old mid new i was (inside_range start end i from to) fits e

-- a slice with room for `end` elements has room for each of them
pub room_for : (k i end long : ℕ) → i < end → k * end ≤ long → k * i + k ≤ long
room_for k i end long h room = search (arith, mul-le-mul_left, mul-suc)

-- Two functions that agree in the body write the same results.
pub same_results : (k : ℕ) (body : Body) (fill_masked_off fill_tail : Bool) (result other : ℕ → ℕ) (ones : ℕ) (old new : List ℕ)
    → ((e : ℕ) → e < body.end → result e ≡ other e)
    → Writes k (is_changed body fill_masked_off fill_tail) (result_or_ones body result ones) old new
    → Writes k (is_changed body fill_masked_off fill_tail) (result_or_ones body other ones) old new
same_results k body fill_masked_off fill_tail result other ones old new same was = search (arith, nat_tests, to_end, writes_same)

-- an active element is before the end
pub active_end : (body : Body) (i : ℕ) → is_active body i ≡ true → i < body.end
active_end body i = search (arith, nat_tests, of_bool, to_end)

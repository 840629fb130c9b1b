-- Digits read from the left, with a value limited to a cap.
use Rattle.rv_model.specs.text.Digits.{digit, digits_after}
use Rattle.rv_model.specs.lending.Text.{capped}
use Rattle.std.proofs.Common.{◌≡◌, ℕ, ◌+◌, ◌*◌, ◌<◌, ◌≤◌, Bool, cond, ltb, List, [], ◌∷◌, length, get_or, drop, Option, Some, None, sym, ap, ◌∙◌, arith, min}
use Rattle.std.proofs.Math.Nat.{mul-le-mul_left}
use Rattle.std.proofs.lemmas.Bool.{cases_lt, lt-ltb, le-ltb, cond-true, cond-false}
use Rattle.std.proofs.lemmas.List.{at_drop_more, at_drop_all}
use Rattle.std.proofs.lemmas.Bool.Decides.{nat_tests}

-- two numbers that are equal up to the cap are still so after a further digit
min_step : (cap r d m n : ℕ) → 1 ≤ r → min m cap ≡ min n cap → min (m * r + d) cap ≡ min (n * r + d) cap
min_step cap r d m n h e = search (arith, cases_lt, mul-le-mul_left)

-- equal capped numbers are still equal under a test
cond_capped : (cap : ℕ) (b : Bool) (x y : Option ℕ) → capped cap x ≡ capped cap y → capped cap (cond b x None) ≡ capped cap (cond b y None)
cond_capped cap b x y e = search (arith, nat_tests)

-- numbers that are equal up to the cap give the same capped number after further digits
capped_same : (cap r : ℕ) (cs : List ℕ) (m n : ℕ) → 1 ≤ r → min m cap ≡ min n cap → capped cap (digits_after r m cs) ≡ capped cap (digits_after r n cs)
unfolding digits_after
capped_same cap r [] m n h e = ap Some e
capped_same cap r (c ∷ cs) m n h e = cond_capped cap (ltb (digit c) r) (digits_after r (m * r + digit c) cs) (digits_after r (n * r + digit c) cs) (capped_same cap r cs (m * r + digit c) (n * r + digit c) h (min_step cap r (digit c) m n h e))

-- a further digit is read
pub digit_more : (cap r v i new : ℕ) (text : List ℕ) (total : Option ℕ) → 1 ≤ r → i < length text → digit (get_or text i 0) < r → new ≡ min (v * r + digit (get_or text i 0)) cap
    → capped cap (digits_after r v (drop i text)) ≡ total → capped cap (digits_after r new (drop (i + 1) text)) ≡ total
unfolding digits_after
digit_more cap r v i new text total h lt d new_is so_far =
    let cs = drop (i + 1) text in
    let c = get_or text i 0 in
    let here : digits_after r v (drop i text) ≡ digits_after r (v * r + digit c) cs = at_drop_more (digits_after r v) text i 0 lt ∙ cond-true (ltb (digit c) r) (digits_after r (v * r + digit c) cs) None (lt-ltb (digit c) r d) in
    capped_same cap r cs new (v * r + digit c) h (omega arith) ∙ sym (ap (capped cap) here) ∙ so_far

-- a byte that isn't a digit of the radix gives no number
pub digit_stops : (cap r v i : ℕ) (text : List ℕ) (total : Option ℕ) → i < length text → r ≤ digit (get_or text i 0) → capped cap (digits_after r v (drop i text)) ≡ total → None ≡ total
unfolding digits_after
digit_stops cap r v i text total lt d so_far =
    let cs = drop (i + 1) text in
    let c = get_or text i 0 in
    let here : digits_after r v (drop i text) ≡ None = at_drop_more (digits_after r v) text i 0 lt ∙ cond-false (ltb (digit c) r) (digits_after r (v * r + digit c) cs) None (le-ltb (digit c) r d) in
    sym (ap (capped cap) here) ∙ so_far

-- all digits are read
pub digits_end : (cap r v i : ℕ) (text : List ℕ) (total : Option ℕ) → length text ≤ i → v ≤ cap → capped cap (digits_after r v (drop i text)) ≡ total → Some v ≡ total
unfolding digits_after
digits_end cap r v i text total le small so_far =
    ap Some (omega arith) ∙ sym (ap (capped cap) (at_drop_all (digits_after r v) text i le)) ∙ so_far

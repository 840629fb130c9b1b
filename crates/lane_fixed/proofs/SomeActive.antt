-- A test of whether a condition holds for an active element, first for the elements of chunks and then for the rest.
use Rattle.std.proofs.Common.{◌≡◌, ℕ, zero, suc, ◌+◌, ◌*◌, ◌/◌, ◌%◌, ◌^◌, ◌<◌, ◌≤◌, Bool, true, false, ◌&&◌, ◌||◌, not, eqb, bit_and, max, refl, sym, ap, ◌∙◌, arith, zero-add}
use Rattle.std.proofs.Math.Bool.{and_comm, or-false, or_assoc}
use Rattle.std.proofs.Math.Nat.{div-div-eq-div-mul, mul-add, mul-one, pow-succ'}
use Rattle.std.proofs.lemmas.Bool.Decides.{nat_tests}
use Rattle.std.proofs.lemmas.Nat.{and_le_l}
use Rattle.std.specs.List.{list_any, range_with_len}
use Rattle.rv_model.specs.elements.Elements.{Body, is_active, is_enabled, in_range, some_active}
use Rattle.rv_model.proofs.element_lemmas.ActiveElements.{some_before, some_begins, some_ends}
use Rattle.lane_arith.proofs.MaskBits.{both_bits}

-- ---- ranges

-- a range, split at m
any_joined : (test : ℕ → Bool) (a m n : ℕ) → list_any test (range_with_len a (m + n)) ≡ (list_any test (range_with_len a m) || list_any test (range_with_len (a + m) n))
any_joined test a zero n =
    let e : zero + n ≡ n = omega arith in
    let f : a ≡ a + zero = omega arith in
    ap (λ x. list_any test (range_with_len a x)) e ∙ ap (λ x. list_any test (range_with_len x n)) f
any_joined test a (suc m) n =
    let e : suc m + n ≡ suc (m + n) = omega arith in
    let f : a + 1 + m ≡ a + suc m = omega arith in
    ap (λ x. list_any test (range_with_len a x)) e
    ∙ ap (λ t. test a || t) (any_joined test (a + 1) m n ∙ ap (λ x. list_any test (range_with_len (a + 1) m) || list_any test (range_with_len x n)) f)
    ∙ sym (or_assoc (test a) (list_any test (range_with_len (a + 1) m)) (list_any test (range_with_len (a + suc m) n)))

-- the range from 0, split at m
first_and_next : (test : ℕ → Bool) (m n : ℕ) → list_any test (range_with_len 0 (m + n)) ≡ (list_any test (range_with_len 0 m) || list_any test (range_with_len m n))
first_and_next test m n = any_joined test 0 m n ∙ ap (λ x. list_any test (range_with_len 0 m) || list_any test (range_with_len x n)) (zero-add m)

-- equal conditions
any_same : (test other : ℕ → Bool) (a n : ℕ) → ((e : ℕ) → a ≤ e → e < a + n → test e ≡ other e)
    → list_any test (range_with_len a n) ≡ list_any other (range_with_len a n)
any_same test other a zero h = refl
any_same test other a (suc n) h =
    let here : test a ≡ other a = h a (omega arith) (omega arith) in
    ap (λ t. t || list_any test (range_with_len (a + 1) n)) here
    ∙ ap (λ t. other a || t) (any_same test other (a + 1) n (λ e from to. h e (omega (arith, from)) (omega (arith, to))))

-- ---- a bit mask with a bit for each index

-- the bit mask isn't 0 if and only if a condition in the range holds
any_bit : (test : ℕ → Bool) (n a x : ℕ) → x < 2 ^ n → ((i : ℕ) → i < n → eqb (x / 2 ^ i % 2) 0 ≡ not (test (a + i)))
    → not (eqb x 0) ≡ list_any test (range_with_len a n)
any_bit test zero a x small bits = let none : x ≡ 0 = omega (arith, small) in ap (λ y. not (eqb y 0)) none
any_bit test (suc n) a x small bits =
    let twice : 2 ^ suc n ≡ 2 * 2 ^ n = pow-succ' 2 n in
    let half : x / 2 < 2 ^ n = omega (arith, small, twice) in
    lowest (test a) (here_is (bits 0 (omega arith)))
    ∙ ap (λ t. test a || t) (any_bit test n (a + 1) (x / 2) half (λ i h. later i ∙ bits (suc i) (omega (arith, h)) ∙ ap (λ e. not (test e)) (next i)))
  where
    next : (i : ℕ) → a + suc i ≡ a + 1 + i
    next i = omega arith

    later : (i : ℕ) → eqb (x / 2 / 2 ^ i % 2) 0 ≡ eqb (x / 2 ^ suc i % 2) 0
    later i = ap (λ y. eqb (y % 2) 0) (div-div-eq-div-mul x 2 (2 ^ i) ∙ ap (λ y. x / y) (sym (pow-succ' 2 i)))

    here_is : eqb (x / 2 ^ 0 % 2) 0 ≡ not (test (a + 0)) → eqb (x % 2) 0 ≡ not (test a)
    here_is h =
        let e : a + 0 ≡ a = omega arith in
        let f : x ≡ x / 2 ^ 0 = omega arith in
        ap (λ y. eqb (y % 2) 0) f ∙ h ∙ ap (λ y. not (test y)) e

    lowest : (b : Bool) → eqb (x % 2) 0 ≡ not b → not (eqb x 0) ≡ (b || not (eqb (x / 2) 0))
    lowest true h = grind (arith, nat_tests)
    lowest false h = grind (arith, nat_tests)

-- ---- active elements

-- one more chunk of n elements: bit masks say for which elements the condition holds, and which are active
pub chunk_shows : (body : Body) (test : ℕ → Bool) (n c : ℕ) (was : Bool) (holds active : ℕ) → was ≡ some_before body test (n * c) → holds < 2 ^ n
    → ((i : ℕ) → i < n → eqb (holds / 2 ^ i % 2) 0 ≡ not (test (n * c + i)))
    → ((i : ℕ) → i < n → eqb (active / 2 ^ i % 2) 0 ≡ not (is_active body (n * c + i)))
    → (was || not (eqb (bit_and holds active) 0)) ≡ some_before body test (n * (c + 1))
chunk_shows body test n c was holds active known small held actives =
    let both : ℕ → Bool = λ e. is_active body e && test e in
    let more : n * c + n ≡ n * (c + 1) = omega (arith, mul-add n c 1, mul-one n) in
    ap (λ t. t || not (eqb (bit_and holds active) 0)) known
    ∙ ap (λ t. some_before body test (n * c) || t)
    (any_bit both n (n * c) (bit_and holds active) (omega (arith, and_le_l holds active, small))
    (λ i h. both_bits holds active i (test (n * c + i)) (is_active body (n * c + i)) (held i h) (actives i h)
    ∙ ap not (and_comm (test (n * c + i)) (is_active body (n * c + i)))))
    ∙ sym (first_and_next both (n * c) n) ∙ ap (some_before body test) more

-- the condition holds for an active element if and only if it holds for one before the cut or for one from the cut on
pub rest_shows : (body rest : Body) (test : ℕ → Bool) (cut : ℕ)
    → rest ≡ record { unmasked = body.unmasked; mask = body.mask; start = max body.start cut; end = body.end }
    → (some_before body test cut || some_active rest test) ≡ some_active body test
rest_shows body rest test cut is =
    let from : Body = record { unmasked = body.unmasked; mask = body.mask; start = max body.start cut; end = body.end } in
    let mine : ℕ → Bool = λ e. is_active body e && test e in
    let theirs : ℕ → Bool = λ e. is_active from e && test e in
    let before : some_before from test cut ≡ false = some_begins from test cut (omega arith) in
    let after : some_active from test ≡ list_any theirs (range_with_len cut body.end) =
    sym (some_ends from test (cut + body.end) (omega arith)) ∙ first_and_next theirs cut body.end
    ∙ ap (λ t. t || list_any theirs (range_with_len cut body.end)) before in
    ap (λ r. some_before body test cut || some_active r test) is
    ∙ ap (λ t. some_before body test cut || t) (after ∙ any_same theirs mine cut body.end (λ e past to. ap (λ t. t && is_enabled body e && test e) (later e past)))
    ∙ sym (first_and_next mine cut body.end) ∙ some_ends body test (cut + body.end) (omega arith)
  where
    later : (e : ℕ) → cut ≤ e → in_range (max body.start cut) body.end e ≡ in_range body.start body.end e
    later e past = grind (arith, nat_tests)

-- only elements before the cut matter if no element of the body is left from the cut on
pub none_left : (body : Body) (test : ℕ → Bool) (cut : ℕ) → body.end ≤ max body.start cut → some_before body test cut ≡ some_active body test
none_left body test cut h =
    let rest : Body = record { unmasked = body.unmasked; mask = body.mask; start = max body.start cut; end = body.end } in
    let none : some_active rest test ≡ false = sym (some_ends rest test rest.start h) ∙ some_begins rest test rest.start (omega arith) in
    sym (or-false (some_before body test cut)) ∙ ap (λ b. some_before body test cut || b) (sym none) ∙ rest_shows body rest test cut refl

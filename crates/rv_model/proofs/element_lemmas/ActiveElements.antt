-- A loop over the body that determines whether a test holds for some active element.
use Rattle.std.proofs.Common.{ℕ, zero, suc, ◌+◌, ◌-◌, ◌<◌, ◌≤◌, ◌≡◌, Bool, true, false, ◌&&◌, ◌||◌, refl, sym, ap, ◌∙◌, arith, add-one}
use Rattle.std.specs.List.{list_any, range_with_len}
use Rattle.std.proofs.lemmas.Bool.Decides.{nat_tests}
use Rattle.rv_model.specs.elements.Elements.{Body, in_body, is_active, is_enabled, some_active}
use Rattle.rv_model.proofs.element_lemmas.Sets.{from_start, inside_range, to_end}
use Rattle.rv_model.proofs.Choices.{of_bool}

-- ---- tests of ranges of numbers

or_joined : (a b c : Bool) → (a || (b || c)) ≡ ((a || b) || c)
or_joined a b c = search (arith, nat_tests)

or_last : (a : Bool) → (a || false) ≡ a
or_last a = search (arith, nat_tests)

-- one more number
any_more : (test : ℕ → Bool) (a n : ℕ) → list_any test (range_with_len a (suc n)) ≡ (list_any test (range_with_len a n) || test (a + n))
any_more test a zero = let e : a + 0 ≡ a = omega arith in or_last (test a) ∙ ap test (sym e)
any_more test a (suc n) = search (arith, or_joined, any_more test (a + 1) n)

-- ---- tests of active elements

module _ (body : Body) (test : ℕ → Bool) where
  -- whether the test holds for some active element before the index i
  abbrev pub some_before : ℕ → Bool
  some_before i = list_any (λ e. is_active body e && test e) (range_with_len 0 i)

  -- one more element
  some_more : (i : ℕ) → some_before (i + 1) ≡ (some_before i || (is_active body i && test i))
  some_more i =
      ap (λ m. list_any (λ e. is_active body e && test e) (range_with_len 0 m)) (add-one i) ∙ any_more (λ e. is_active body e && test e) 0 i
      ∙ ap (λ m. some_before i || (is_active body m && test m)) (omega arith)

  -- an element that isn't active
  some_kept : (i : ℕ) → is_active body i ≡ false → some_before (i + 1) ≡ some_before i
  some_kept i h = some_more i ∙ ap (λ a. some_before i || (a && test i)) h ∙ or_last (some_before i)

  outside : (i : ℕ) → (in_body body i ≡ true → ⊥) → is_active body i ≡ false
  outside i h = of_bool (in_body body i) (λ b. (b && is_enabled body i) ≡ false) (λ is. absurd (h is)) (λ is. refl)

  -- before the first element of the body
  pub some_begins : (i : ℕ) → i ≤ body.start → some_before i ≡ false
  some_begins zero h = refl
  some_begins (suc i) h =
      ap some_before (sym (add-one i)) ∙ some_kept i (outside i (λ b. omega (arith, from_start body.start body.end i b))) ∙ some_begins i (omega arith)

  -- at an element of the body
  pub some_step : (i : ℕ) → body.start ≤ i → i < body.end → is_enabled body i ≡ true → some_before (i + 1) ≡ (some_before i || test i)
  some_step i from to h = search (arith, nat_tests, inside_range, some_more)

  pub some_off : (i : ℕ) → is_enabled body i ≡ false → some_before (i + 1) ≡ some_before i
  some_off i h = some_kept i (of_bool (in_body body i) (λ b. (b && is_enabled body i) ≡ false) (λ is. h) (λ is. refl))

  -- after the last
  past_end : (k : ℕ) → some_before (body.end + k) ≡ some_active body test
  past_end zero = let e : body.end + 0 ≡ body.end = omega arith in ap some_before e
  past_end (suc k) =
      ap some_before (omega arith) ∙ some_kept (body.end + k) (outside (body.end + k) (λ b. omega (arith, to_end body.start body.end (body.end + k) b))) ∙ past_end k

  pub some_ends : (i : ℕ) → body.end ≤ i → some_before i ≡ some_active body test
  some_ends i h = let e : i ≡ body.end + (i - body.end) = omega arith in ap some_before e ∙ past_end (i - body.end)

-- Tests that agree on each element of the body have the same result.
pub some_same : (body : Body) (computed test : ℕ → Bool) → ((i : ℕ) → i < body.end → computed i ≡ test i) → some_active body computed ≡ some_active body test
some_same body computed test same = upto body.end (λ i h. same i h)
  where
    upto : (n : ℕ) → ((i : ℕ) → i < n → computed i ≡ test i) → some_before body computed n ≡ some_before body test n
    upto zero h = refl
    upto (suc n) h =
        ap (some_before body computed) (sym (add-one n)) ∙ some_more body computed n
        ∙ ap (λ t. some_before body computed n || (is_active body n && t)) (h n (omega arith))
        ∙ ap (λ t. t || (is_active body n && test n)) (upto n (λ i l. h i (omega arith)))
        ∙ sym (ap (some_before body test) (sym (add-one n)) ∙ some_more body test n)

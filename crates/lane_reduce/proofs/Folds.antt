-- Combination of numbers in any order: SIMD instructions combine the lanes of chunks, and then halves of the lanes.
use Rattle.std.proofs.Common.{ℕ, zero, suc, ◌+◌, ◌<◌, ◌≡◌, [], ◌∷◌, map, Bool, true, false, cond, refl, sym, ap, ◌∙◌, arith}
use Rattle.std.proofs.lemmas.Bool.{false_from_ne_true}
use Rattle.std.specs.List.{filter, fold, range_with_len}
use Rattle.std.proofs.lemmas.List.FromFn.{map-range_with_len_more}
use Rattle.std.proofs.lemmas.List.Sums.{fold-append}
use Rattle.rv_model.proofs.element_lemmas.Ranges.{combined_more, combined_same}
use Rattle.rv_model.specs.elements.Elements.{Body, is_active}
use Rattle.rv_model.proofs.element_lemmas.Sets.{active_end}
use Rattle.lane_reduce.specs.AnyOrder.{AnyOrder, total}

module _ (f : ℕ → ℕ → ℕ) (e p : ℕ) (law : AnyOrder f e p) where
  -- one more number
  total_more : (g : ℕ → ℕ) (n : ℕ) → total f e g (suc n) ≡ f (total f e g n) (g n)
  total_more g n =
      let next : suc n ≡ n + 1 = omega arith in
      ap (λ m. fold f e (map g (range_with_len 0 m))) next ∙ ap (fold f e) (map-range_with_len_more g 0 n n (omega arith))
      ∙ fold-append f e (map g (range_with_len 0 n)) (g n ∷ [])

  pub total_below : (g : ℕ → ℕ) (n : ℕ) → total f e g n < p
  total_below g zero = law.within
  total_below g (suc n) = rw (total_more g n) (law.closed (total f e g n) (g n))

  pub total_same : (g h : ℕ → ℕ) (n : ℕ) → ((i : ℕ) → i < n → g i ≡ h i) → total f e g n ≡ total f e h n
  total_same g h zero same = refl
  total_same g h (suc n) same =
      total_more g n ∙ ap (λ x. f (total f e g n) x) (same n (omega arith)) ∙ ap (λ t. f t (h n)) (total_same g h n (λ i l. same i (omega (arith, l))))
      ∙ sym (total_more h n)

  -- a combination of neutral elements only
  pub total_neutral : (g : ℕ → ℕ) (n : ℕ) → ((i : ℕ) → i < n → g i ≡ e) → total f e g n ≡ e
  total_neutral g zero all = refl
  total_neutral g (suc n) all =
      total_more g n ∙ ap (λ x. f (total f e g n) x) (all n (omega arith)) ∙ ap (λ t. f t e) (total_neutral g n (λ i l. all i (omega (arith, l))))
      ∙ law.unchanged e law.within

  -- four numbers with the middle two exchanged
  crossed : (a b x y : ℕ) → a < p → b < p → x < p → y < p → f (f a b) (f x y) ≡ f (f a x) (f b y)
  crossed a b x y ha hb hx hy =
      law.associative a b (f x y) ha hb (law.closed x y)
      ∙ ap (f a) (sym (law.associative b x y hb hx hy) ∙ ap (λ t. f t y) (law.commutative b x hb hx) ∙ law.associative x b y hx hb hy)
      ∙ sym (law.associative a x (f b y) ha hx (law.closed b y))

  -- two sequences of numbers, combined pair by pair
  pub total_pairs : (g h : ℕ → ℕ) (n : ℕ) → ((i : ℕ) → i < n → g i < p) → ((i : ℕ) → i < n → h i < p)
      → total f e (λ i. f (g i) (h i)) n ≡ f (total f e g n) (total f e h n)
  total_pairs g h zero few less = sym (law.unchanged e law.within)
  total_pairs g h (suc n) few less =
      total_more (λ i. f (g i) (h i)) n
      ∙ ap (λ t. f t (f (g n) (h n))) (total_pairs g h n (λ i l. few i (omega (arith, l))) (λ i l. less i (omega (arith, l))))
      ∙ crossed (total f e g n) (total f e h n) (g n) (h n) (total_below g n) (total_below h n) (few n (omega arith)) (less n (omega arith))
      ∙ sym (ap (λ x. f x (total f e h (suc n))) (total_more g n) ∙ ap (f (f (total f e g n) (g n))) (total_more h n))

  -- a sequence after another
  pub total_append : (g : ℕ → ℕ) (m n : ℕ) → ((i : ℕ) → i < n → g (m + i) < p) → total f e g (m + n) ≡ f (total f e g m) (total f e (λ i. g (m + i)) n)
  total_append g m zero few = ap (total f e g) (let same : m + 0 ≡ m = omega arith in same) ∙ sym (law.unchanged (total f e g m) (total_below g m))
  total_append g m (suc n) few =
      let next : m + suc n ≡ suc (m + n) = omega arith in
      ap (total f e g) next ∙ total_more g (m + n) ∙ ap (λ t. f t (g (m + n))) (total_append g m n (λ i l. few i (omega (arith, l))))
      ∙ law.associative (total f e g m) (total f e (λ i. g (m + i)) n) (g (m + n)) (total_below g m) (total_below (λ i. g (m + i)) n) (few n (omega arith))
      ∙ ap (f (total f e g m)) (sym (total_more (λ i. g (m + i)) n))

  -- a chunk of n numbers, combined lane by lane with the result of the numbers before it
  pub chunk_combined : (g was now : ℕ → ℕ) (m n : ℕ) → ((i : ℕ) → g i < p) → ((i : ℕ) → i < n → was i < p) → ((i : ℕ) → i < n → now i ≡ f (was i) (g (m + i)))
      → total f e was n ≡ total f e g m → total f e now n ≡ total f e g (m + n)
  chunk_combined g was now m n few less is so_far =
      total_same now (λ i. f (was i) (g (m + i))) n is ∙ total_pairs was (λ i. g (m + i)) n less (λ i l. few (m + i))
      ∙ ap (λ t. f t (total f e (λ i. g (m + i)) n)) so_far ∙ sym (total_append g m n (λ i l. few (m + i)))

  -- the upper half of the lanes, combined with the lower half
  pub halves_combined : (was now : ℕ → ℕ) (n : ℕ) → ((i : ℕ) → i < n + n → was i < p) → ((i : ℕ) → i < n → now i ≡ f (was i) (was (n + i)))
      → total f e now n ≡ total f e was (n + n)
  halves_combined was now n few is =
      total_same now (λ i. f (was i) (was (n + i))) n is ∙ total_pairs was (λ i. was (n + i)) n (λ i l. few i (omega (arith, l))) (λ i l. few (n + i) (omega (arith, l)))
      ∙ sym (total_append was n n (λ i l. few (n + i) (omega (arith, l))))

  -- the remaining single lane
  pub total_one : (g : ℕ → ℕ) → g 0 < p → total f e g 1 ≡ g 0
  total_one g few = total_more g 0 ∙ law.commutative e (g 0) law.within few ∙ law.unchanged (g 0) few

  -- a fold of the numbers that satisfy a condition equals the combination with neutral elements in place of the others
  pub fold_total : (test : ℕ → Bool) (number : ℕ → ℕ) (first n : ℕ) → first < p → ((i : ℕ) → number i < p)
      → fold f first (map number (filter test (range_with_len 0 n))) ≡ f first (total f e (λ i. cond (test i) (number i) e) n)
  fold_total test number first zero h few = sym (law.unchanged first h)
  fold_total test number first (suc n) h few =
      let g : ℕ → ℕ = λ i. cond (test i) (number i) e in
      let next : n + 1 ≡ suc n = omega arith in
      let some : ℕ = fold f first (map number (filter test (range_with_len 0 n))) in
      sym (ap (λ m. fold f first (map number (filter test (range_with_len 0 m)))) next)
      ∙ step (total f e (λ i. cond (test i) (number i) e) n) some (total_below (λ i. cond (test i) (number i) e) n) refl (fold_total test number first n h few) (test n) refl
      ∙ ap (f first) (sym (total_more (λ i. cond (test i) (number i) e) n))
    where
      step : (t some : ℕ) → t < p → some ≡ fold f first (map number (filter test (range_with_len 0 n))) → some ≡ f first t → (b : Bool) → test n ≡ b
          → fold f first (map number (filter test (range_with_len 0 (n + 1)))) ≡ f first (f t (cond b (number n) e))
      step t some small is was true passes =
          sym (combined_more test f first number n some (number n) passes is refl) ∙ ap (λ x. f x (number n)) was ∙ law.associative first t (number n) h small (few n)
      step t some small is was false fails =
          sym (combined_same test f first number n some fails is) ∙ was ∙ ap (f first) (sym (law.unchanged t small))

-- elements past the body aren't active
pub fold_beyond : (body : Body) (f : ℕ → ℕ → ℕ) (first : ℕ) (number : ℕ → ℕ) (past n : ℕ) → n ≡ body.end + past
    → fold f first (map number (filter (is_active body) (range_with_len 0 n))) ≡ fold f first (map number (filter (is_active body) (range_with_len 0 body.end)))
fold_beyond body f first number zero n is =
    ap (λ m. fold f first (map number (filter (is_active body) (range_with_len 0 m)))) (let same : n ≡ body.end = omega (arith, is) in same)
fold_beyond body f first number (suc past) n is =
    let before : ℕ = body.end + past in
    let next : n ≡ before + 1 = omega (arith, is) in
    ap (λ m. fold f first (map number (filter (is_active body) (range_with_len 0 m)))) next
    ∙ sym (combined_same (is_active body) f first number before _ (false_from_ne_true (is_active body before) (λ e. absurd (omega (arith, active_end body before e)))) refl)
    ∙ fold_beyond body f first number past before refl

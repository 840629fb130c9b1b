-- Laws about the numbers below n that pass a test, by induction on n.
use Rattle.std.proofs.Common.{ℕ, zero, suc, ◌+◌, ◌≤◌, ◌≡◌, List, [], ◌∷◌, ◌++◌, length, map, Bool, true, false, cond, refl, sym, ap, ◌∙◌, arith, length-append}
use Rattle.std.specs.Int.{from_bool}
use Rattle.std.specs.List.{filter, fold, range_with_len}
use Rattle.std.proofs.lemmas.List.{map-append, map-id}
use Rattle.std.proofs.lemmas.List.Elements.{filter-append}
use Rattle.std.proofs.lemmas.List.FromFn.{map-range_with_len_more}
use Rattle.std.proofs.lemmas.List.Sums.{fold-append}
use Rattle.rv_model.proofs.Choices.{of_bool, of_either}

-- one more number
pub range_more : (n : ℕ) → range_with_len 0 (n + 1) ≡ range_with_len 0 n ++ n ∷ []
range_more n =
    sym (map-id (range_with_len 0 (n + 1))) ∙ map-range_with_len_more (λ x. x) 0 n n (omega arith)
    ∙ ap (λ xs. xs ++ n ∷ []) (map-id (range_with_len 0 n))

module _ (test : ℕ → Bool) where
  passed_more : (n : ℕ) → filter test (range_with_len 0 (n + 1)) ≡ filter test (range_with_len 0 n) ++ cond (test n) (n ∷ []) []
  passed_more n = ap (filter test) (range_more n) ∙ filter-append test (range_with_len 0 n) (n ∷ [])

  -- the count of these numbers
  pub count_more : (n : ℕ) → length (filter test (range_with_len 0 (n + 1))) ≡ length (filter test (range_with_len 0 n)) + from_bool (test n)
  count_more n =
      ap length (passed_more n) ∙ length-append (filter test (range_with_len 0 n)) (cond (test n) (n ∷ []) [])
      ∙ ap (λ x. length (filter test (range_with_len 0 n)) + x)
      (of_bool (test n) (λ b. length (cond b (n ∷ []) []) ≡ from_bool b) (λ e. refl) (λ e. refl))

  -- the count is at most n
  pub count_most : (n : ℕ) → length (filter test (range_with_len 0 n)) ≤ n
  count_most n = most 0 n
    where
      most : (a n : ℕ) → length (filter test (range_with_len a n)) ≤ n
      most a zero = omega arith
      most a (suc n) =
          let less = most (a + 1) n in of_either (λ xs. length xs ≤ suc n) (test a) _ _ (omega (arith, less)) (omega (arith, less))

  -- a fold over these numbers
  module _ (combined : ℕ → ℕ → ℕ) (first : ℕ) (number : ℕ → ℕ) where
    abbrev combination : ℕ → ℕ
    combination n = fold combined first (map number (filter test (range_with_len 0 n)))

    combination_more : (n : ℕ) → combination (n + 1) ≡ fold combined (combination n) (map number (cond (test n) (n ∷ []) []))
    combination_more n =
        let before : List ℕ = filter test (range_with_len 0 n) in
        ap (λ xs. fold combined first (map number xs)) (passed_more n)
        ∙ ap (fold combined first) (map-append number before (cond (test n) (n ∷ []) []))
        ∙ fold-append combined first (map number before) (map number (cond (test n) (n ∷ []) []))

    pub combined_more : (n so_far x : ℕ) → test n ≡ true → so_far ≡ combination n → x ≡ number n → combined so_far x ≡ combination (n + 1)
    combined_more n so_far x h was is =
        rw (was, is) (sym (combination_more n ∙ ap (λ b. fold combined (combination n) (map number (cond b (n ∷ []) []))) h))

    pub combined_same : (n so_far : ℕ) → test n ≡ false → so_far ≡ combination n → so_far ≡ combination (n + 1)
    combined_same n so_far h was =
        was ∙ sym (combination_more n ∙ ap (λ b. fold combined (combination n) (map number (cond b (n ∷ []) []))) h)

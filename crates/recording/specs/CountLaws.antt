-- Laws about additions to rows: consecutive additions, and the additions of consecutive instructions.
use Rattle.std.proofs.Common.{◌≡◌, ◌+◌, ◌%◌, ◌^◌, ◌++◌, ◌∷◌, ℕ, Bool, List, [], ap, sym, add-zero, arith}
use Rattle.std.proofs.lemmas.List.Sums.{sum_by-append}
use Rattle.rv_model.specs.step.Hart.{HartState}
use Rattle.recording.specs.Runs.{share, shares}
use Rattle.recording.specs.Sums.{HasMore, Key, Row, Sums, no_more, total}

-- ---- consecutive additions

then_more : (old mid new a b c : ℕ) → a + b ≡ c → mid % 2 ^ 64 ≡ (old + a) % 2 ^ 64 → new % 2 ^ 64 ≡ (mid + b) % 2 ^ 64 → new % 2 ^ 64 ≡ (old + c) % 2 ^ 64
then_more old mid new a b c adds one two = omega (arith, adds, one, two)

-- two consecutive additions equal their sum
pub composed : (a b c : (Sums → ℕ) → (Key → Bool) → ℕ) (old mid new : List Row) → ((number : Sums → ℕ) (asked : Key → Bool) → a number asked + b number asked ≡ c number asked)
    → HasMore a old mid → HasMore b mid new → HasMore c old new
composed a b c old mid new adds one two asked =
    record {
      times = of (λ s. s.times) (one asked).times (two asked).times;
      ticks = of (λ s. s.ticks) (one asked).ticks (two asked).ticks;
      active = of (λ s. s.active) (one asked).active (two asked).active;
      masked = of (λ s. s.masked) (one asked).masked (two asked).masked;
      tail = of (λ s. s.tail) (one asked).tail (two asked).tail;
    }
  where
    of : (number : Sums → ℕ) → total number asked mid % 2 ^ 64 ≡ (total number asked old + a number asked) % 2 ^ 64
        → total number asked new % 2 ^ 64 ≡ (total number asked mid + b number asked) % 2 ^ 64
        → total number asked new % 2 ^ 64 ≡ (total number asked old + c number asked) % 2 ^ 64
    of number e f =
        then_more (total number asked old) (total number asked mid) (total number asked new) (a number asked) (b number asked) (c number asked)
        (adds number asked) e f

-- unchanged rows have no addition
pub none_more : (rows : List Row) → HasMore no_more rows rows
none_more rows asked =
    record {
      times = of (λ s. s.times);
      ticks = of (λ s. s.ticks);
      active = of (λ s. s.active);
      masked = of (λ s. s.masked);
      tail = of (λ s. s.tail);
    }
  where
    of : (number : Sums → ℕ) → total number asked rows % 2 ^ 64 ≡ (total number asked rows + 0) % 2 ^ 64
    of number = ap (λ (n : ℕ). n % 2 ^ 64) (sym (add-zero (total number asked rows)))

-- ---- additions of instructions

-- no instruction
pub none_shared : (rows : List Row) → HasMore (shares []) rows rows
none_shared rows = none_more rows

-- two consecutive lists of instructions
pub more_shared : (xs ys : List HartState) (old mid new : List Row) → HasMore (shares xs) old mid → HasMore (shares ys) mid new → HasMore (shares (xs ++ ys)) old new
more_shared xs ys old mid new =
    composed (shares xs) (shares ys) (shares (xs ++ ys)) old mid new (λ number asked. sym (sum_by-append (λ (s : HartState). share s number asked) xs ys))

one_is : (s : HartState) (number : Sums → ℕ) (asked : Key → Bool) → 0 + share s number asked ≡ shares (s ∷ []) number asked
one_is s number asked = omega arith

-- one instruction, after no addition
pub one_shared : (s : HartState) (old mid new : List Row) → HasMore no_more old mid → HasMore (share s) mid new → HasMore (shares (s ∷ [])) old new
one_shared s old mid new none more = composed no_more (share s) (shares (s ∷ [])) old mid new (one_is s) none more

-- Laws about totals: of no instruction, of two consecutive lists of instructions, and of one instruction.
use Rattle.std.proofs.Common.{◌≡◌, ◌+◌, ◌%◌, ◌^◌, ◌++◌, ◌∷◌, [], ℕ, List, ap, sym, arith}
use Rattle.std.specs.List.{sum_by}
use Rattle.std.proofs.lemmas.List.Sums.{sum_by-append}
use Rattle.rv_model.specs.step.Hart.{HartState}
use Rattle.recording.specs.Totals.{AddsUp}

pub none_added : (number : HartState → ℕ) (n : ℕ) → AddsUp number n [] n
none_added number n = let same : n ≡ n + 0 = omega arith in ap (λ (m : ℕ). m % 2 ^ 64) same

added_twice : (a b c x y z : ℕ) → x + y ≡ z → b % 2 ^ 64 ≡ (a + x) % 2 ^ 64 → c % 2 ^ 64 ≡ (b + y) % 2 ^ 64 → c % 2 ^ 64 ≡ (a + z) % 2 ^ 64
added_twice a b c x y z adds one two = omega (arith, adds, one, two)

pub more_added : (number : HartState → ℕ) (xs ys : List HartState) (a b c : ℕ) → AddsUp number a xs b → AddsUp number b ys c → AddsUp number a (xs ++ ys) c
more_added number xs ys a b c one two =
    added_twice a b c (sum_by number xs) (sum_by number ys) (sum_by number (xs ++ ys)) (sym (sum_by-append number xs ys)) one two

-- one instruction that adds n
pub one_added : (number : HartState → ℕ) (s : HartState) (n a b : ℕ) → number s ≡ n → b ≡ (a + n) % 2 ^ 64 → AddsUp number a (s ∷ []) b
one_added number s n a b is added = omega (arith, is, added)

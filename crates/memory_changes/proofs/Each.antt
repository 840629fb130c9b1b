-- The lines of each instruction of a run.
use Rattle.std.proofs.Common.{◌≡◌, ◌∙◌, ◌+◌, ◌%◌, ◌^◌, ◌++◌, ◌∷◌, [], ℕ, List, ap, append_assoc, arith, length, sym}
use Rattle.std.specs.List.{sum_by}
use Rattle.std.proofs.lemmas.List.Sums.{sum_by-cons}
use Rattle.rv_model.specs.step.Hart.{HartState}
use Rattle.memory_changes.specs.Changes.{LinesOfEach, changes_by, changes_from, one_more, ticks_more, ticks_of}
use Rattle.memory_changes.specs.Recorded.{number_after, ticks_after}
use Rattle.memory_changes.specs.RecordLaws.{changes_then}

wrapped : (a b : ℕ) → (a % 2 ^ 64 + b) % 2 ^ 64 ≡ (a + b) % 2 ^ 64
wrapped a b = omega arith

number_is : (n : ℕ) (states : List HartState) → number_after (n % 2 ^ 64) states ≡ (n + length states) % 2 ^ 64
unfolding number_after
number_is n [] = let none : n ≡ n + 0 = omega arith in ap (λ (m : ℕ). m % 2 ^ 64) none
number_is n (s ∷ states) =
    let more : n + 1 + length states ≡ n + length (s ∷ states) = omega arith in
    ap (λ (m : ℕ). number_after m states) (wrapped n 1) ∙ (number_is (n + 1) states ∙ ap (λ (m : ℕ). m % 2 ^ 64) more)

ticks_are : (t : ℕ) (states : List HartState) → ticks_after (t % 2 ^ 64) states ≡ (t + sum_by ticks_of states) % 2 ^ 64
unfolding ticks_after
ticks_are t [] = let none : t ≡ t + 0 = omega arith in ap (λ (m : ℕ). m % 2 ^ 64) none
ticks_are t (s ∷ states) =
    let more : t + ticks_of s + sum_by ticks_of states ≡ t + sum_by ticks_of (s ∷ states) = omega (arith, sum_by-cons ticks_of s states) in
    ap (λ (m : ℕ). ticks_after m states) (wrapped t (ticks_of s)) ∙ (ticks_are (t + ticks_of s) states ∙ ap (λ (m : ℕ). m % 2 ^ 64) more)

pub of_each : LinesOfEach
unfolding changes_from
of_each places before s after =
    let number : one_more (number_after 0 before) ≡ (length before + 1) % 2 ^ 64 = omega (arith, number_is 0 before) in
    let ticks : ticks_more (ticks_after 0 before) s ≡ (sum_by ticks_of before + ticks_of s) % 2 ^ 64 = omega (arith, ticks_are 0 before) in
    changes_then places 0 0 before (s ∷ after)
    ∙ ap (λ (l : List ℕ). changes_from places 0 0 before ++ l)
    (ap (λ (n : ℕ). changes_by places n (ticks_more (ticks_after 0 before) s) s ++ changes_from places n (ticks_more (ticks_after 0 before) s) after) number
    ∙ ap (λ (t : ℕ). changes_by places ((length before + 1) % 2 ^ 64) t s ++ changes_from places ((length before + 1) % 2 ^ 64) t after) ticks)
    ∙ sym (append_assoc (changes_from places 0 0 before) (changes_by places ((length before + 1) % 2 ^ 64) ((sum_by ticks_of before + ticks_of s) % 2 ^ 64) s)
    (changes_from places ((length before + 1) % 2 ^ 64) ((sum_by ticks_of before + ticks_of s) % 2 ^ 64) after))

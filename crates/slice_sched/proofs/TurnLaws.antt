-- Search for the first user, in the order of turns, who passes a test.
use Rattle.std.proofs.Common.{◌≡◌, ℕ, ◌+◌, ◌<◌, ◌≤◌, List, length, get_or, drop, Bool, true, false, cond, Some, None, ap, ◌∙◌}
use Rattle.std.specs.Prelude.{find}
use Rattle.std.proofs.lemmas.List.{at_drop_more, at_drop_all}

pub found_here : (p : ℕ → Bool) (xs : List ℕ) (i : ℕ) → i < length xs → p (get_or xs i 0) ≡ true → find p (drop i xs) ≡ Some (get_or xs i 0)
found_here p xs i within passes = at_drop_more (find p) xs i 0 within ∙ ap (λ (b : Bool). cond b (Some (get_or xs i 0)) (find p (drop (i + 1) xs))) passes

pub found_later : (p : ℕ → Bool) (xs : List ℕ) (i : ℕ) → i < length xs → p (get_or xs i 0) ≡ false → find p (drop i xs) ≡ find p (drop (i + 1) xs)
found_later p xs i within fails = at_drop_more (find p) xs i 0 within ∙ ap (λ (b : Bool). cond b (Some (get_or xs i 0)) (find p (drop (i + 1) xs))) fails

pub found_nowhere : (p : ℕ → Bool) (xs : List ℕ) (i : ℕ) → length xs ≤ i → find p (drop i xs) ≡ None
found_nowhere p xs i past = at_drop_all (find p) xs i past

pub ruleset found_steps = (found_here, found_later, found_nowhere)

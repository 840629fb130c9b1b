-- Consecutive reads of a source
use Rattle.std.proofs.Common.{◌≡◌, ℕ, ◌⊎◌, inl, inr, List, [], ◌++◌, subst, sym}

-- no read so far reached the end: there was no read, or the last one returned bytes
abbrev pub HasNoEnd : {D : Type 0} → (D → Type 0) → D → List ℕ → D → Type 0
HasNoEnd Ended before given now = ((now ≡ before) × (given ≡ [])) ⊎ (¬ (Ended now))

-- therefore one more read continues them
pub one_read_more : {D : Type 0} (Gave : D → List ℕ → D → Type 0) (Ended : D → Type 0)
    → ((a b c : D) (xs ys : List ℕ) → Gave a xs b → ¬ (Ended b) → Gave b ys c → Gave a (xs ++ ys) c)
    → (a b c : D) (xs ys : List ℕ) → Gave a xs b → HasNoEnd Ended a xs b → Gave b ys c → Gave a (xs ++ ys) c
one_read_more Gave Ended more a b c xs ys first (inl none) then =
    subst (λ (l : List ℕ). Gave a (l ++ ys) c) (sym none.1) (subst (λ (d : _). Gave d ys c) none.0 then)
one_read_more Gave Ended more a b c xs ys first (inr going) then = more a b c xs ys first going then

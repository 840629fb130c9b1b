-- The bytes of a file in memory
use Rattle.std.proofs.Common.{◌≡◌, ◌∙◌, ◌++◌, ℕ, List, [], ap, append-nil, append_assoc, refl, sym}

-- the bytes were appended, and the path is the same
abbrev pub HasTaken : {P : Type 0} → P → List ℕ → List ℕ → P → List ℕ → Type 0
HasTaken path old xs new_path new = (new_path ≡ path) × (new ≡ old ++ xs)

pub has_taken_none : {P : Type 0} (path : P) (old : List ℕ) → HasTaken path old [] path old
has_taken_none path old = (refl, sym (append-nil old))

pub has_taken_more : {P : Type 0} (a b c : P) (old mid new xs ys : List ℕ) → HasTaken a old xs b mid → HasTaken b mid ys c new → HasTaken a old (xs ++ ys) c new
has_taken_more a b c old mid new xs ys one two = (two.0 ∙ one.0, two.1 ∙ (ap (λ (l : List ℕ). l ++ ys) one.1 ∙ append_assoc old xs ys))

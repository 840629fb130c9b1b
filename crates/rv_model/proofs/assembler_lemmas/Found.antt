-- An element that a search finds passes the search's test, and any test that all elements pass.
use Rattle.std.proofs.Common.{◌≡◌, Bool, true, List, [], ◌∷◌, Some, sym, ap, ◌∙◌, inl, inr}
use Rattle.std.specs.Prelude.{find}
use Rattle.std.specs.List.{list_all}
use Rattle.std.proofs.lemmas.Bool.{and_parts}
use Rattle.rv_model.proofs.Choices.{first_or}

-- the found element passes the test of the search
pub found_is : {X : Type 0} (p : X → Bool) (xs : List X) (y : X) → find p xs ≡ Some y → p y ≡ true
found_is p [] y h = absurd cc
found_is p (x ∷ xs) y h = elim (first_or (p x) x y (find p xs) h) [
  | inl here ↦ ap p (sym here.1) ∙ here.0
  | inr later ↦ found_is p xs y later
]

-- the found element passes a test that all elements pass
pub found_passes : {X : Type 0} (p q : X → Bool) (xs : List X) (y : X) → list_all q xs ≡ true → find p xs ≡ Some y → q y ≡ true
found_passes p q [] y all h = absurd cc
found_passes p q (x ∷ xs) y all h =
    let each = and_parts (q x) (list_all q xs) all in
    elim (first_or (p x) x y (find p xs) h) [
      | inl here ↦ ap q (sym here.1) ∙ each.0
      | inr later ↦ found_passes p q xs y each.1 later
    ]

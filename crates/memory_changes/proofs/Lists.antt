-- Places that are read or compared in sequence.
use Rattle.std.proofs.Common.{◌≡◌, ◌<◌, ◌+◌, ◌++◌, ◌∷◌, [], ℕ, List, ap, ◌∙◌, sym, append-nil, length, take, drop, flat_map}
use Rattle.std.specs.List.{slice_index_or}
use Rattle.std.proofs.lemmas.List.{drop_more, take_more}
use Rattle.std.proofs.lemmas.List.Concat.{flat_map-append}
use Rattle.std.proofs.Math.Seq.{drop-append_seam, take-append_seam}

-- the results of the first i items and of the next one
pub first_more : {X : Type 0} (f : X → List ℕ) (xs : List X) (i : ℕ) (d : X) → i < length xs → flat_map f (take i xs) ++ f (slice_index_or xs i d) ≡ flat_map f (take (i + 1) xs)
first_more f xs i d lt =
    let x = slice_index_or xs i d in
    sym (ap (flat_map f) (take_more xs i d lt) ∙ (flat_map-append f (take i xs) (x ∷ []) ∙ ap (λ (l : List ℕ). flat_map f (take i xs) ++ l) (append-nil (f x))))

-- the results of the remaining items
pub left_is : {X : Type 0} (f : X → List ℕ) (xs : List X) (i : ℕ) (d : X) → i < length xs → flat_map f (drop i xs) ≡ f (slice_index_or xs i d) ++ flat_map f (drop (i + 1) xs)
left_is f xs i d lt = ap (flat_map f) (drop_more xs i d lt) ∙ flat_map-append f (slice_index_or xs i d ∷ []) (drop (i + 1) xs) ∙ ap (λ (l : List ℕ). l ++ flat_map f (drop (i + 1) xs)) (append-nil (f (slice_index_or xs i d)))

-- the rest and the front of two concatenated lists, by the length of the first
pub rest_is : (xs ys : List ℕ) (n : ℕ) → length xs ≡ n → drop n (xs ++ ys) ≡ ys
rest_is xs ys n is = ap (λ (m : ℕ). drop m (xs ++ ys)) (sym is) ∙ drop-append_seam xs ys

pub front_is : (xs ys : List ℕ) (n : ℕ) → length xs ≡ n → take n (xs ++ ys) ≡ xs
front_is xs ys n is = ap (λ (m : ℕ). take m (xs ++ ys)) (sym is) ∙ take-append_seam xs ys

-- The contents of a line buffer of 1,025 bytes
use Rattle.std.proofs.Common.{◌≡◌, ℕ, ◌≤◌, ◌++◌, [], ◌∷◌, List, length, ◌∙◌, sym, true, false, eqb, arith}
use Rattle.std.proofs.lemmas.List.{take_all, take-append-le, length_push}
use Rattle.std.proofs.lemmas.Bool.{eqb-true, eqb-false}
use Rattle.monitor_script.specs.Feed.{longer}

pub longer_full : (l : List ℕ) (b : ℕ) → true ≡ eqb (length l) 1025 → l ≡ longer l b
longer_full l b h =
    let len : length l ≡ 1025 = eqb-true (length l) 1025 (sym h) in
    sym (take-append-le 1025 l (b ∷ []) (omega (arith, len)) ∙ take_all 1025 l (omega (arith, len)))

pub longer_room : (l : List ℕ) (b : ℕ) → length l ≤ 1025 → false ≡ eqb (length l) 1025 → l ++ b ∷ [] ≡ longer l b
longer_room l b le h =
    let ne : length l ≡ 1025 → ⊥ = eqb-false (length l) 1025 (sym h) in
    let one = length_push l b in
    sym (take_all 1025 (l ++ b ∷ []) (omega (arith, one, ne, le)))

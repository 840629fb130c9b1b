-- Lists of addresses.
use Rattle.std.proofs.Common.{◌≡◌, ℕ, ◌+◌, ◌≤◌, Bool, true, false, List, [], ◌∷◌, length, nat_le, nat_lt, filter, Result, Ok, Err, refl, arith}
use Rattle.std.specs.List.{list_any}
use Rattle.std.specs.Prelude.{◌&&◌, IsOk, OnOk}
use Rattle.std.proofs.lemmas.Bool.Decides.{nat_tests}

-- no address of an empty list passes a test
pub none_holds : (asked : Bool) (p : ℕ → Bool) (xs : List ℕ) → nat_le (length xs) 0 ≡ true → false ≡ (asked && list_any p xs)
none_holds true p [] e = refl
none_holds false p [] e = refl
none_holds asked p (x ∷ xs) e = absurd (grind (arith, nat_tests, e))

-- the addresses below addr and those above it are no more than all addresses
pub parts_fit : (addr : ℕ) (xs : List ℕ) → length (filter (λ a. nat_lt a addr) xs) + length (filter (λ a. nat_lt addr a) xs) ≤ length xs
parts_fit addr [] = omega arith
parts_fit addr (x ∷ xs) = grind (arith, nat_tests, parts_fit addr xs)

-- what a result ensures if it is `Ok`
pub of_ok : {A E : Type 0} (r : Result A E) (P : Type 0) → IsOk r → OnOk r P → P
of_ok (Ok x) P is holds = holds
of_ok (Err e) P is holds = absurd cc

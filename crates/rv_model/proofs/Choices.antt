-- A property that holds for each branch of a test, or for each form of an option, holds for the selected one.
use Rattle.std.proofs.Common.{◌≡◌, ◌⊎◌, inl, inr, Bool, true, false, refl, cond, Option, Some, None}

-- a property of both branches holds for the branch that a test selects
pub of_either : {A : Type 0} (P : A → Type 0) (b : Bool) (x y : A) → P x → P y → P (cond b x y)
of_either P true x y h k = h
of_either P false x y h k = k

-- the same if the proof for each branch may use the result of the test
pub of_test : {A : Type 0} (P : A → Type 0) (b : Bool) (x y : A) → (b ≡ true → P x) → (b ≡ false → P y) → P (cond b x y)
of_test P true x y h k = h refl
of_test P false x y h k = k refl

-- the same for the result of the test itself
pub of_bool : (b : Bool) (P : Bool → Type 0) → (b ≡ true → P true) → (b ≡ false → P false) → P b
of_bool true P h k = h refl
of_bool false P h k = k refl

-- the same for the two forms of an option
pub of_option : {A : Type 0} (o : Option A) (P : Option A → Type 0) → (o ≡ None → P None) → ((a : A) → o ≡ Some a → P (Some a)) → P o
of_option None P h k = h refl
of_option (Some a) P h k = k a refl

-- the first match is the element that passes the test, or is in the rest
pub first_or : {A : Type 0} (b : Bool) (x y : A) (rest : Option A) → cond b (Some x) rest ≡ Some y → ((b ≡ true) × (x ≡ y)) ⊎ (rest ≡ Some y)
first_or true x y rest h = inl (refl, cc)
first_or false x y rest h = inr h

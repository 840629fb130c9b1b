-- The bytes of a file that was read up to a number of bytes, or to its end
use Rattle.std.proofs.Common.{◌≡◌, ◌∙◌, ◌<◌, ◌≤◌, ◌++◌, ℕ, List, [], Option, Some, None, Result, Ok, Err, IfOk, ap, arith, length, sym, take}
use Rattle.std.specs.Io.KnownBytes.{Consumes, IsAtEnd, Keeps}
use Rattle.std.proofs.lemmas.Grind.{common_steps}
use Rattle.devices.specs.KnownBytes.{AreFirstKnown}

-- the bytes before the rest; there is no rest unless they are `most`
front : (most : ℕ) (bytes rest : List ℕ) → length bytes ≤ most → (length bytes < most → rest ≡ []) → bytes ≡ take most (bytes ++ rest)
front most bytes rest few ends = grind (arith, common_steps)

first_known : (most : ℕ) (known held after : Option (List ℕ)) (bytes : List ℕ) → Keeps known held → Consumes held after bytes → length bytes ≤ most
    → (length bytes < most → IsAtEnd after) → AreFirstKnown most known bytes
first_known most None held after bytes kept given few ends = tt
first_known most (Some xs) None after bytes kept given few ends = absurd kept
first_known most (Some xs) (Some ys) None bytes kept given few ends = absurd given
first_known most (Some xs) (Some ys) (Some rest) bytes kept given few ends = front most bytes rest few ends ∙ ap (λ (l : List ℕ). take most l) (sym given ∙ kept)

pub result_first : {A E : Type 0} (items : A → List ℕ) (r : Result A E) (most : ℕ) (known held after : Option (List ℕ)) → Keeps known held
    → IfOk r (λ b. Consumes held after (items b)) → IfOk r (λ b. length (items b) ≤ most) → IfOk r (λ b. length (items b) < most → IsAtEnd after)
    → IfOk r (λ b. AreFirstKnown most known (items b))
result_first items (Ok b) most known held after kept given few ends = first_known most known held after (items b) kept given few ends
result_first items (Err e) most known held after kept given few ends = tt

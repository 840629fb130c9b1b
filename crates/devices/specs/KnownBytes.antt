-- Bytes of a file or of standard input, if they are specified
use Rattle.std.specs.Prelude.{◌≡◌, ℕ, List, Option, IfSome, take}

-- the bytes are equal to the known ones, if there are known ones
abbrev pub AreKnownAs : Option (List ℕ) → List ℕ → Type 0
AreKnownAs known bytes = IfSome known (λ xs. bytes ≡ xs)

-- the bytes are the first `most` known ones, or all of them if there are fewer
abbrev pub AreFirstKnown : ℕ → Option (List ℕ) → List ℕ → Type 0
AreFirstKnown most known bytes = IfSome known (λ xs. bytes ≡ take most xs)

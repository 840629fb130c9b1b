-- Vector lengths that a vector type allows.
use Rattle.std.specs.Prelude.{ℕ, ◌≡◌, ◌≤◌, Option, MatchOption}
use Rattle.rv_model.specs.declared.vector.types.VType.{VType}
use Rattle.rv_model.specs.vector.Groups.{IsSupported, vlmax}

-- `IsConfiguration` for a vector type and a length
abbrev pub IsLength : Option VType → ℕ → Type 0
IsLength o vl = MatchOption o (vl ≡ 0) (λ t. IsSupported t × (vl ≤ vlmax t))

-- The failure count of a source or a sink (docs/DECISIONS.md, "Devices"). Each failure adds one, and the count
-- saturates at 2^64 - 1.
use Rattle.std.specs.Prelude.{◌≡◌, ℕ, ◌+◌, ◌-◌, ◌<◌, ◌^◌, ◌⊎◌, min, Result, MatchResult}

-- a failure raises the count by one, up to 2^64 - 1; a success leaves it unchanged
abbrev pub Counts : {T E : Type 0} → ℕ → ℕ → Result T E → Type 0
Counts before now result = MatchResult result (λ _. now ≡ before) (λ _. now ≡ min (before + 1) (2 ^ 64 - 1))

-- the count has risen, or has saturated
abbrev pub Rose : ℕ → ℕ → Type 0
Rose before now = (before < now) ⊎ (now ≡ 2 ^ 64 - 1)

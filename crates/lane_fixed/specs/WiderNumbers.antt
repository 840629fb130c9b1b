-- Integers that need one bit more than a width.
use Rattle.std.specs.Prelude.{ℕ, ◌==◌, not, ℤ, ◌≡◌}
use Rattle.std.specs.Int.{Width}
use mir.Val.{bits}
use Rattle.rv_model.specs.elements.FixedPoint.{has_bit}
use Rattle.rv_model.specs.elements.Formulas.{wrap}

-- two numbers represent an integer: its low bits, and a number that isn't 0 if the bit above them is set
abbrev pub IsShown : Width → ℕ → ℕ → ℤ → Type 0
IsShown w low above v = (low ≡ wrap w v) × ((above == 0) ≡ not (has_bit (bits w) v))

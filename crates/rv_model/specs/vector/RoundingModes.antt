-- The numbers of the fixed-point rounding modes ("V" Vector Extension 1.0, section 3.8, `vxrm`).
use Rattle.std.specs.Prelude.{ℕ, ◌%◌, ◌==◌, if◌then◌else◌}
use Rattle.rv_model.specs.vector.Types.{RoundingMode, NearestUp, NearestEven, Down, Odd}

-- the value of vxrm for a rounding mode
abbrev pub rounding_number : RoundingMode → ℕ
rounding_number NearestUp = 0
rounding_number NearestEven = 1
rounding_number Down = 2
rounding_number Odd = 3

-- the rounding mode that the low two bits of a number encode
abbrev pub rounding_mode : ℕ → RoundingMode
rounding_mode n =
    if n % 4 == 0 then NearestUp
    else if n % 4 == 1 then NearestEven
    else if n % 4 == 2 then Down
    else Odd

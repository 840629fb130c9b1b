-- The widths of elements in bits and in bytes.
use Rattle.std.proofs.Common.{◌≡◌, ◌*◌, ◌/◌, ◌^◌, ◌<◌, arith, refl, lit<}
use Rattle.std.specs.Int.{Width, w8}
use mir.Val.{bits}
use Rattle.rv_model.specs.declared.vector.sizes.TheConstants.{VLENB}
use Rattle.rv_model.specs.declared.vector.types.VType.{VType}
use Rattle.rv_model.specs.vector.Groups.{lmul_eighths, sew_bits, vlmax, width_bytes}

-- an element has at least one byte
pub bytes_positive : (w : Width) → 0 < width_bytes w
bytes_positive w8 = lit< tt
bytes_positive _ = lit< tt

-- an element has a whole number of bytes
pub whole_bytes : (w : Width) → bits w ≡ 8 * width_bytes w
whole_bytes w8 = refl
whole_bytes _ = refl

-- 2 to the power of the width is positive
pub power_positive : (w : Width) → 0 < 2 ^ bits w
power_positive w8 = lit< tt
power_positive _ = lit< tt

pub vlmax_by_bytes : (t : VType) → lmul_eighths t.lmul * VLENB / sew_bits t.sew ≡ vlmax t
vlmax_by_bytes t = search arith

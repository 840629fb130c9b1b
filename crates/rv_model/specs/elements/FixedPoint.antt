-- Fixed-point arithmetic ("V" Vector Extension 1.0, chapter 12): exact integers, their rounding, and their saturation at the width of an
-- element. a is the element of vs2, b that of the second operand, and mode the rounding mode in vxrm.
use Rattle.std.specs.Prelude.{ℕ, ◌-◌, ◌%◌, ◌==◌, ◌&&◌, ◌||◌, not, Bool, true, false, ℤ, pos, ◌+ℤ◌, ◌-ℤ◌, ◌*ℤ◌, if◌then◌else◌}
use Rattle.std.specs.Int.{Width, cast_signed, from_bool, int_shr, saturate_signed, saturate_unsigned}
use Rattle.std.specs.Ordering.{int_eq}
use mir.Val.{bits}
use Rattle.rv_model.specs.instructions.Types.{ClipOp, FixedPointOp}
use Rattle.rv_model.specs.declared.instructions.operations.ClipOp.TheVariants.{Vnclipu, Vnclip}
use Rattle.rv_model.specs.declared.instructions.operations.FixedPointOp.TheVariants.{Vsaddu, Vsadd, Vssubu, Vssub, Vsmul, Vssrl, Vssra, Vaaddu, Vaadd, Vasubu, Vasub}
use Rattle.rv_model.specs.vector.Types.{RoundingMode, NearestUp, NearestEven, Down, Odd}
use Rattle.rv_model.specs.elements.Formulas.{low_bits}

-- ---- rounding (section 3.8)

-- whether bit i of an integer, in two's complement, is set
abbrev pub has_bit : ℕ → ℤ → Bool
has_bit i v = low_bits 1 (int_shr v i) == 1

-- whether rounding adds one when the low d bits are dropped
abbrev pub rounds_up : RoundingMode → ℕ → ℤ → Bool
rounds_up NearestUp d v = has_bit (d - 1) v
rounds_up NearestEven d v = has_bit (d - 1) v && (not (low_bits (d - 1) v == 0) || has_bit d v)
rounds_up Down d v = false
rounds_up Odd d v = not (has_bit d v) && not (low_bits d v == 0)

-- an integer without its low d bits, rounded
abbrev pub rounded : RoundingMode → ℕ → ℤ → ℤ
rounded mode d v = if d == 0 then v else int_shr v d +ℤ pos (from_bool (rounds_up mode d v))

-- ---- operations of one width, w

-- the exact result of an operation, before it is reduced to the width
abbrev pub exact : FixedPointOp → RoundingMode → Width → ℕ → ℕ → ℤ
exact Vsaddu mode w a b = pos a +ℤ pos b
exact Vsadd mode w a b = cast_signed w a +ℤ cast_signed w b
exact Vssubu mode w a b = pos a -ℤ pos b
exact Vssub mode w a b = cast_signed w a -ℤ cast_signed w b
exact Vsmul mode w a b = rounded mode (bits w - 1) (cast_signed w a *ℤ cast_signed w b)
exact Vssrl mode w a b = rounded mode (b % bits w) (pos a)
exact Vssra mode w a b = rounded mode (b % bits w) (cast_signed w a)
exact Vaaddu mode w a b = rounded mode 1 (pos a +ℤ pos b)
exact Vaadd mode w a b = rounded mode 1 (cast_signed w a +ℤ cast_signed w b)
exact Vasubu mode w a b = rounded mode 1 (pos a -ℤ pos b)
exact Vasub mode w a b = rounded mode 1 (cast_signed w a -ℤ cast_signed w b)

-- the nearest number of the width, if the operation saturates
abbrev pub clipped : FixedPointOp → Width → ℤ → ℤ
clipped Vsaddu w v = pos (saturate_unsigned w v)
clipped Vssubu w v = pos (saturate_unsigned w v)
clipped Vsadd w v = saturate_signed w v
clipped Vssub w v = saturate_signed w v
clipped Vsmul w v = saturate_signed w v
clipped _ w v = v

-- the result
abbrev pub fixed_point_formula : FixedPointOp → RoundingMode → Width → ℕ → ℕ → ℤ
fixed_point_formula op mode w a b = clipped op w (exact op mode w a b)

-- whether the result differs from the exact number
abbrev pub saturates : FixedPointOp → RoundingMode → Width → ℕ → ℕ → Bool
saturates op mode w a b = not (int_eq (fixed_point_formula op mode w a b) (exact op mode w a b))

-- whether the immediate of an operation is unsigned, as it is for shifts
abbrev pub has_unsigned_shift : FixedPointOp → Bool
has_unsigned_shift Vssrl = true
has_unsigned_shift Vssra = true
has_unsigned_shift _ = false

-- ---- clips of a wide first operand to the narrow width n; the shift amount is b modulo the number of bits of the wide width w

abbrev pub exact_shift : ClipOp → RoundingMode → Width → ℕ → ℕ → ℤ
exact_shift Vnclipu mode w a b = rounded mode (b % bits w) (pos a)
exact_shift Vnclip mode w a b = rounded mode (b % bits w) (cast_signed w a)

abbrev pub narrowed : ClipOp → Width → ℤ → ℤ
narrowed Vnclipu n v = pos (saturate_unsigned n v)
narrowed Vnclip n v = saturate_signed n v

abbrev pub clip_formula : ClipOp → RoundingMode → Width → Width → ℕ → ℕ → ℤ
clip_formula op mode w n a b = narrowed op n (exact_shift op mode w a b)

abbrev pub clip_saturates : ClipOp → RoundingMode → Width → Width → ℕ → ℕ → Bool
clip_saturates op mode w n a b = not (int_eq (clip_formula op mode w n a b) (exact_shift op mode w a b))

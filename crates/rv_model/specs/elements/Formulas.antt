-- The result of each element-wise operation, as an integer or a truth value ("V" Vector Extension 1.0, chapter 11). An element is an
-- unsigned number of the operation's width; a is an element of vs2, and b is from vs1, x[rs1] or the immediate. A result that is an integer
-- is reduced modulo 2 to the width.
use Rattle.std.specs.Prelude.{ℕ, ◌+◌, ◌-◌, ◌*◌, ◌%◌, ◌^◌, ◌==◌, nat_le, nat_lt, min, max, not, Bool, true, false, suc, ℤ, pos, negsuc, ◌+ℤ◌, ◌-ℤ◌, ◌*ℤ◌, int_lt, int_le, bit_and, bit_or, bit_xor, if◌then◌else◌}
use Rattle.std.specs.Int.{Width, cast_signed, from_bool, int_min, int_max, int_shr}
use mir.Val.{bits}
use Rattle.rv_model.specs.instructions.Types.{BinaryOp, CarryOp, CarryOutOp, CompareOp, ExtendOp, NarrowShiftOp, WidenOp, WideSourceOp, WidenMultiplyAddOp, MultiplyAddOp}
use Rattle.rv_model.specs.declared.instructions.operations.BinaryOp.TheVariants.{Vadd, Vsub, Vrsub, Vminu, Vmin, Vmaxu, Vmax, Vand, Vor, Vxor, Vsll, Vsrl, Vsra, Vdivu, Vdiv, Vremu, Vrem, Vmulhu, Vmul, Vmulhsu, Vmulh}
use Rattle.rv_model.specs.declared.instructions.operations.CarryOp.TheVariants.{Vadc, Vsbc, Vmerge}
use Rattle.rv_model.specs.declared.instructions.operations.CarryOutOp.TheVariants.{Vmadc, Vmsbc}
use Rattle.rv_model.specs.declared.instructions.operations.CompareOp.TheVariants.{Vmseq, Vmsne, Vmsltu, Vmslt, Vmsleu, Vmsle, Vmsgtu, Vmsgt}
use Rattle.rv_model.specs.declared.instructions.operations.ExtendOp.TheVariants.{VzextVf8, VzextVf4, VzextVf2}
use Rattle.rv_model.specs.declared.instructions.operations.NarrowShiftOp.TheVariants.{Vnsrl, Vnsra}
use Rattle.rv_model.specs.declared.instructions.operations.WidenOp.TheVariants as widen
use Rattle.rv_model.specs.declared.instructions.operations.WideSourceOp.TheVariants as wide_source
use Rattle.rv_model.specs.declared.instructions.operations.WidenMultiplyAddOp.TheVariants.{Vwmaccu, Vwmacc, Vwmaccus, Vwmaccsu}
use Rattle.rv_model.specs.declared.instructions.operations.MultiplyAddOp.TheVariants.{Vmadd, Vnmsub, Vmacc, Vnmsac}
use Rattle.rv_model.specs.instructions.Immediates.{sign_extended}
use Rattle.rv_model.specs.scalar.Arithmetic.{shifted_left, shifted_right, high_product, signed_high_product, mixed_high_product, quotient, remainder, signed_quotient, signed_remainder}

-- the low `count` bits of an integer, in two's complement
abbrev pub low_bits : ℕ → ℤ → ℕ
low_bits count (pos v) = v % 2 ^ count
low_bits count (negsuc v) = 2 ^ count - suc (v % 2 ^ count)

-- an integer modulo 2 to the width: its low bits
abbrev pub wrap : Width → ℤ → ℕ
wrap w v = low_bits (bits w) v

-- all ones
abbrev pub ones : Width → ℕ
ones w = 2 ^ bits w - 1

-- operations of one width
abbrev pub formula : BinaryOp → Width → ℕ → ℕ → ℤ
formula Vadd w a b = pos a +ℤ pos b
formula Vsub w a b = pos a -ℤ pos b
formula Vrsub w a b = pos b -ℤ pos a
formula Vminu w a b = pos (min a b)
formula Vmin w a b = int_min (cast_signed w a) (cast_signed w b)
formula Vmaxu w a b = pos (max a b)
formula Vmax w a b = int_max (cast_signed w a) (cast_signed w b)
formula Vand w a b = pos (bit_and a b)
formula Vor w a b = pos (bit_or a b)
formula Vxor w a b = pos (bit_xor a b)
formula Vsll w a b = pos (shifted_left w a b)
formula Vsrl w a b = pos (shifted_right w a b)
formula Vsra w a b = int_shr (cast_signed w a) (b % bits w)
formula Vdivu w a b = pos (quotient w a b)
formula Vdiv w a b = pos (signed_quotient w a b)
formula Vremu w a b = pos (remainder w a b)
formula Vrem w a b = pos (signed_remainder w a b)
formula Vmulhu w a b = pos (high_product w a b)
formula Vmul w a b = pos (a * b)
formula Vmulhsu w a b = mixed_high_product w a b
formula Vmulh w a b = signed_high_product w a b

-- products of two operands, to which a third is added, or which are subtracted from the third; d is the element of vd
abbrev pub multiply_add_formula : MultiplyAddOp → ℕ → ℕ → ℕ → ℤ
multiply_add_formula Vmadd a b d = pos (b * d + a)
multiply_add_formula Vnmsub a b d = pos a -ℤ pos (b * d)
multiply_add_formula Vmacc a b d = pos (a * b + d)
multiply_add_formula Vnmsac a b d = pos d -ℤ pos (a * b)

-- ---- operations of two widths: n is the narrow one, and w the wide one, which has twice as many bits

-- operations with a wide result
abbrev pub widen_formula : WidenOp → Width → ℕ → ℕ → ℤ
widen_formula widen.Vwaddu n a b = pos a +ℤ pos b
widen_formula widen.Vwadd n a b = cast_signed n a +ℤ cast_signed n b
widen_formula widen.Vwsubu n a b = pos a -ℤ pos b
widen_formula widen.Vwsub n a b = cast_signed n a -ℤ cast_signed n b
widen_formula widen.Vwmulu n a b = pos a *ℤ pos b
widen_formula widen.Vwmulsu n a b = cast_signed n a *ℤ pos b
widen_formula widen.Vwmul n a b = cast_signed n a *ℤ cast_signed n b

-- operations with a wide result and a wide first operand
abbrev pub wide_source_formula : WideSourceOp → Width → Width → ℕ → ℕ → ℤ
wide_source_formula wide_source.Vwaddu w n a b = pos a +ℤ pos b
wide_source_formula wide_source.Vwadd w n a b = cast_signed w a +ℤ cast_signed n b
wide_source_formula wide_source.Vwsubu w n a b = pos a -ℤ pos b
wide_source_formula wide_source.Vwsub w n a b = cast_signed w a -ℤ cast_signed n b

-- wide products, added to d, the wide element of vd
abbrev pub widen_multiply_add_formula : WidenMultiplyAddOp → Width → ℕ → ℕ → ℕ → ℤ
widen_multiply_add_formula Vwmaccu n a b d = pos a *ℤ pos b +ℤ pos d
widen_multiply_add_formula Vwmacc n a b d = cast_signed n a *ℤ cast_signed n b +ℤ pos d
widen_multiply_add_formula Vwmaccus n a b d = cast_signed n a *ℤ pos b +ℤ pos d
widen_multiply_add_formula Vwmaccsu n a b d = pos a *ℤ cast_signed n b +ℤ pos d

-- shifts of a wide first operand by b modulo the number of bits of the wide width; the result is narrow
abbrev pub narrow_shift_formula : NarrowShiftOp → Width → ℕ → ℕ → ℤ
narrow_shift_formula Vnsrl w a b = pos (shifted_right w a b)
narrow_shift_formula Vnsra w a b = int_shr (cast_signed w a) (b % bits w)

-- zero and sign extensions of a narrow element
abbrev pub extend_formula : ExtendOp → Width → ℕ → ℤ
extend_formula VzextVf8 n a = pos a
extend_formula VzextVf4 n a = pos a
extend_formula VzextVf2 n a = pos a
extend_formula _ n a = cast_signed n a

-- ---- operations with v0, and operations with truth values as results

-- operations with v0 as an operand; c is the element's bit in v0
abbrev pub carry_formula : CarryOp → ℕ → ℕ → Bool → ℤ
carry_formula Vadc a b c = pos (a + b + from_bool c)
carry_formula Vsbc a b c = pos a -ℤ pos (b + from_bool c)
carry_formula Vmerge a b c = pos (if c then b else a)

-- the carry-out of a sum with the carry-in c, or the borrow-out of a difference with the borrow-in c
abbrev pub carry_out_formula : CarryOutOp → Width → ℕ → ℕ → Bool → Bool
carry_out_formula Vmadc w a b c = nat_le (2 ^ bits w) (a + b + from_bool c)
carry_out_formula Vmsbc w a b c = nat_lt a (b + from_bool c)

-- comparisons
abbrev pub compare_formula : CompareOp → Width → ℕ → ℕ → Bool
compare_formula Vmseq w a b = a == b
compare_formula Vmsne w a b = not (a == b)
compare_formula Vmsltu w a b = nat_lt a b
compare_formula Vmslt w a b = int_lt (cast_signed w a) (cast_signed w b)
compare_formula Vmsleu w a b = nat_le a b
compare_formula Vmsle w a b = int_le (cast_signed w a) (cast_signed w b)
compare_formula Vmsgtu w a b = nat_lt b a
compare_formula Vmsgt w a b = int_lt (cast_signed w b) (cast_signed w a)

-- whether the immediate of an operation of one width is unsigned, as it is for shifts
abbrev pub has_unsigned_immediate : BinaryOp → Bool
has_unsigned_immediate Vsll = true
has_unsigned_immediate Vsrl = true
has_unsigned_immediate Vsra = true
has_unsigned_immediate _ = false

-- the number that a 5-bit immediate encodes: unsigned, or sign-extended to 64 bits
abbrev pub immediate_value : Bool → ℕ → ℕ
immediate_value unsigned imm = if unsigned then imm else sign_extended 5 imm

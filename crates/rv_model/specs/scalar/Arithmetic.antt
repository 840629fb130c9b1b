-- The results of scalar operations, as natural numbers. A register is an unsigned number of 64 bits; a signed operation interprets it as
-- two's complement (Unprivileged ISA 20191213, sections 2.4, 5.2, 7.1 and 7.2).
use Rattle.std.specs.Prelude.{ℕ, ◌+◌, ◌-◌, ◌*◌, ◌/◌, ◌%◌, ◌^◌, ◌==◌, ◌&&◌, nat_lt, Bool, if◌then◌else◌, ℤ, pos, ◌*ℤ◌, int_lt, int_div, int_rem, bit_and, bit_or, bit_xor}
use Rattle.std.specs.Int.{Width, w32, w64, cast_signed, cast_unsigned, int_shr, from_bool}
use mir.Val.{bits, hbits}
use Rattle.rv_model.specs.instructions.Types.{UpperOp, RegisterOp, ImmediateOp, ShiftImmediateOp, ShiftImmediateWordOp}
use Rattle.rv_model.specs.declared.instructions.operations.UpperOp.TheVariants.{Lui, Auipc}
use Rattle.rv_model.specs.declared.instructions.operations.RegisterOp.TheVariants.{Add, Sub, Sll, Slt, Sltu, Xor, Srl, Sra, Or, And, Mul, Mulh, Mulhsu, Mulhu, Div, Divu, Rem, Remu, Addw, Subw, Sllw, Srlw, Sraw, Mulw, Divw, Divuw, Remw, Remuw}
use Rattle.rv_model.specs.declared.instructions.operations.ImmediateOp.TheVariants.{Addi, Slti, Sltiu, Xori, Ori, Andi, Addiw}
use Rattle.rv_model.specs.declared.instructions.operations.ShiftImmediateOp.TheVariants.{Slli, Srli, Srai}
use Rattle.rv_model.specs.declared.instructions.operations.ShiftImmediateWordOp.TheVariants.{Slliw, Srliw, Sraiw}
use Rattle.rv_model.specs.instructions.Immediates.{u_immediate, sign_extended}

-- ---- operations of a width, on unsigned numbers of that width

-- modulo 2 to the width
abbrev pub sum : Width → ℕ → ℕ → ℕ
sum w a b = (a + b) % 2 ^ bits w

-- modulo 2 to the width
abbrev pub difference : Width → ℕ → ℕ → ℕ
difference w a b = (a + (2 ^ bits w - b)) % 2 ^ bits w

-- modulo 2 to the width
abbrev pub product : Width → ℕ → ℕ → ℕ
product w a b = a * b % 2 ^ bits w

-- the upper half of the whole product
abbrev pub high_product : Width → ℕ → ℕ → ℕ
high_product w a b = a * b / 2 ^ bits w

-- the upper half of the whole product of two signed numbers
abbrev pub signed_high_product : Width → ℕ → ℕ → ℤ
signed_high_product w a b = int_shr (cast_signed w a *ℤ cast_signed w b) (bits w)

-- the upper half of the whole product of a signed and an unsigned number
abbrev pub mixed_high_product : Width → ℕ → ℕ → ℤ
mixed_high_product w a b = int_shr (cast_signed w a *ℤ pos b) (bits w)

-- shifted left by the low bits of b: 5 bits for a width of 32, 6 bits for a width of 64
abbrev pub shifted_left : Width → ℕ → ℕ → ℕ
shifted_left w a b = a * 2 ^ (b % bits w) % 2 ^ bits w

-- shifted right, with zeros in the upper bits
abbrev pub shifted_right : Width → ℕ → ℕ → ℕ
shifted_right w a b = a / 2 ^ (b % bits w)

-- shifted right, with copies of the sign in the upper bits
abbrev pub shifted_right_signed : Width → ℕ → ℕ → ℕ
shifted_right_signed w a b = cast_unsigned w (int_shr (cast_signed w a) (b % bits w))

-- the quotient, rounded toward zero; all ones if the divisor is zero
abbrev pub quotient : Width → ℕ → ℕ → ℕ
quotient w a b = if b == 0 then 2 ^ bits w - 1 else a / b

-- the remainder of that division; the dividend if the divisor is zero
abbrev pub remainder : Width → ℕ → ℕ → ℕ
remainder w a b = if b == 0 then a else a % b

-- the least signed number is divided by -1, and the quotient doesn't fit
abbrev pub overflows : Width → ℕ → ℕ → Bool
overflows w a b = a == 2 ^ hbits w && b == 2 ^ bits w - 1

-- the signed quotient, rounded toward zero; all ones if the divisor is zero, and the dividend on overflow
abbrev pub signed_quotient : Width → ℕ → ℕ → ℕ
signed_quotient w a b =
    if b == 0 then 2 ^ bits w - 1
    else if overflows w a b then a
    else cast_unsigned w (int_div (cast_signed w a) (cast_signed w b))

-- the remainder of that division, with the dividend's sign; the dividend if the divisor is zero, and 0 on overflow
abbrev pub signed_remainder : Width → ℕ → ℕ → ℕ
signed_remainder w a b =
    if b == 0 then a
    else if overflows w a b then 0
    else cast_unsigned w (int_rem (cast_signed w a) (cast_signed w b))

-- ---- instructions

-- an operation on the low 32 bits, with the result sign-extended
abbrev pub of_words : (Width → ℕ → ℕ → ℕ) → ℕ → ℕ → ℕ
of_words operation a b = sign_extended 32 (operation w32 (a % 2 ^ 32) (b % 2 ^ 32))

-- the result of an operation on two registers
abbrev pub register_op_value : RegisterOp → ℕ → ℕ → ℕ
register_op_value Add a b = sum w64 a b
register_op_value Sub a b = difference w64 a b
register_op_value Sll a b = shifted_left w64 a b
register_op_value Slt a b = from_bool (int_lt (cast_signed w64 a) (cast_signed w64 b))
register_op_value Sltu a b = from_bool (nat_lt a b)
register_op_value Xor a b = bit_xor a b
register_op_value Srl a b = shifted_right w64 a b
register_op_value Sra a b = shifted_right_signed w64 a b
register_op_value Or a b = bit_or a b
register_op_value And a b = bit_and a b
register_op_value Mul a b = product w64 a b
register_op_value Mulh a b = cast_unsigned w64 (signed_high_product w64 a b)
register_op_value Mulhsu a b = cast_unsigned w64 (mixed_high_product w64 a b)
register_op_value Mulhu a b = high_product w64 a b
register_op_value Div a b = signed_quotient w64 a b
register_op_value Divu a b = quotient w64 a b
register_op_value Rem a b = signed_remainder w64 a b
register_op_value Remu a b = remainder w64 a b
register_op_value Addw a b = of_words sum a b
register_op_value Subw a b = of_words difference a b
register_op_value Sllw a b = of_words shifted_left a b
register_op_value Srlw a b = of_words shifted_right a b
register_op_value Sraw a b = of_words shifted_right_signed a b
register_op_value Mulw a b = of_words product a b
register_op_value Divw a b = of_words signed_quotient a b
register_op_value Divuw a b = of_words quotient a b
register_op_value Remw a b = of_words signed_remainder a b
register_op_value Remuw a b = of_words remainder a b

-- the register operation that corresponds to an operation with a sign-extended 12-bit immediate
abbrev pub immediate_op_form : ImmediateOp → RegisterOp
immediate_op_form Addi = Add
immediate_op_form Slti = Slt
immediate_op_form Sltiu = Sltu
immediate_op_form Xori = Xor
immediate_op_form Ori = Or
immediate_op_form Andi = And
immediate_op_form Addiw = Addw

-- the shift by a register that corresponds to a shift by a 6-bit immediate
abbrev pub shift_immediate_form : ShiftImmediateOp → RegisterOp
shift_immediate_form Slli = Sll
shift_immediate_form Srli = Srl
shift_immediate_form Srai = Sra

-- the 32-bit shift by a register that corresponds to a 32-bit shift by a 5-bit immediate
abbrev pub shift_immediate_word_form : ShiftImmediateWordOp → RegisterOp
shift_immediate_word_form Slliw = Sllw
shift_immediate_word_form Srliw = Srlw
shift_immediate_word_form Sraiw = Sraw

-- the immediate in the upper 20 bits of a 32-bit number, sign-extended; AUIPC adds it to the program counter
abbrev pub upper_value : UpperOp → ℕ → ℕ → ℕ
upper_value Lui pc imm = u_immediate imm
upper_value Auipc pc imm = sum w64 pc (u_immediate imm)

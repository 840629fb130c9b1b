-- Immediates: the bits of a word that hold them, and the 64-bit words that they encode (Unprivileged ISA, RV32I, "Immediate Encoding
-- Variants"; RV64I: immediates are sign-extended to 64 bits).
use Rattle.std.specs.Prelude.{ℕ, ◌+◌, ◌-◌, ◌*◌, ◌^◌, nat_lt, if◌then◌else◌}
use Rattle.rv_model.specs.instructions.FixedBits.{field}

-- S: bits 4 to 0 of the immediate are in bits 11 to 7 of the word, bits 11 to 5 in bits 31 to 25
abbrev pub store_immediate : ℕ → ℕ
store_immediate word = field 7 5 word + field 25 7 word * 2 ^ 5

-- B: bits 11 to 8 of the word hold bits 4 to 1 of the distance, bits 30 to 25 hold bits 10 to 5. Bit 7 holds bit 11, and bit 31 bit 12.
abbrev pub branch_offset : ℕ → ℕ
branch_offset word = field 8 4 word + field 25 6 word * 2 ^ 4 + field 7 1 word * 2 ^ 10 + field 31 1 word * 2 ^ 11

-- J: bits 30 to 21 of the word hold bits 10 to 1 of the distance, bit 20 holds bit 11. Bits 19 to 12 hold the same bits, and bit 31 bit 20.
abbrev pub jump_offset : ℕ → ℕ
jump_offset word = field 21 10 word + field 20 1 word * 2 ^ 10 + field 12 8 word * 2 ^ 11 + field 31 1 word * 2 ^ 19

-- a two's complement number of `bits` bits, sign-extended to 64 bits
abbrev pub sign_extended : ℕ → ℕ → ℕ
sign_extended bits value = if nat_lt value (2 ^ (bits - 1)) then value else value + (2 ^ 64 - 2 ^ bits)

-- I: bits 11 to 0
abbrev pub i_immediate : ℕ → ℕ
i_immediate imm = sign_extended 12 imm

-- S: bits 11 to 0, as in I
abbrev pub s_immediate : ℕ → ℕ
s_immediate imm = i_immediate imm

-- B: bits 12 to 1 of a distance in bytes
abbrev pub b_immediate : ℕ → ℕ
b_immediate imm = sign_extended 13 (2 * imm)

-- U: bits 31 to 12
abbrev pub u_immediate : ℕ → ℕ
u_immediate imm = sign_extended 32 (imm * 2 ^ 12)

-- J: bits 20 to 1 of a distance in bytes
abbrev pub j_immediate : ℕ → ℕ
j_immediate imm = sign_extended 21 (2 * imm)

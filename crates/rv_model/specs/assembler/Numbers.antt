-- The value of one token of assembler text: a number; a register (Unprivileged ISA, "RISC-V Assembly Programmer's Handbook"); a control
-- register (V extension, "Vector Extension Programmer's Model").
use Rattle.std.specs.Prelude.{ℕ, zero, suc, ◌+◌, ◌-◌, ◌*◌, ◌/◌, ◌%◌, ◌&&◌, List, [], ◌∷◌, ◌++◌, Option, Some, None, nat_le, nat_lt, option_map, ◌==◌, if◌then◌else◌}
use Rattle.std.specs.Option.{option_and_then, option_or}
use Rattle.std.specs.Str.{bytes_eq}
use Rattle.rv_model.specs.text.Digits.{digits_after}
use Rattle.rv_model.specs.vector.ControlRegisters.{control_registers, register_name, register_number}
use Rattle.rv_model.specs.vector.TypeNames.{with_name}

-- 0, if the token equals `word`
abbrev pub literal : List ℕ → List ℕ → Option ℕ
literal word text = if bytes_eq text word then Some 0 else None

-- the number of a register below 32: a letter, then one digit, or two digits without a leading 0
abbrev pub register : ℕ → List ℕ → Option ℕ
register letter (l ∷ a ∷ []) = if (l == letter) && (nat_le 48 a && nat_le a 57) then Some (a - 48) else None
register letter (l ∷ a ∷ b ∷ []) =
    if (l == letter) && ((nat_le 49 a && nat_le a 51) && ((nat_le 48 b && nat_le b 57) && nat_lt ((a - 48) * 10 + (b - 48)) 32))
    then Some ((a - 48) * 10 + (b - 48)) else None
register letter _ = None

-- the number that one or more digits spell
abbrev pub digits_in : ℕ → List ℕ → Option ℕ
digits_in radix [] = None
digits_in radix (c ∷ cs) = digits_after radix 0 (c ∷ cs)

-- decimal digits, or `0x` and hexadecimal digits; an upper-case letter never belongs to a run, so never to a number
abbrev pub number : List ℕ → Option ℕ
number (a ∷ b ∷ cs) = if (a == 48) && (b == 120) then digits_in 16 cs else digits_in 10 (a ∷ b ∷ cs)
number text = digits_in 10 text

-- a number of at most `limit`
abbrev pub at_most : ℕ → Option ℕ → Option ℕ
at_most limit number = option_and_then (λ n. if nat_le n limit then Some n else None) number

-- a number divided by `step`, if it is a multiple of `step`
abbrev pub in_steps : ℕ → Option ℕ → Option ℕ
in_steps step number = option_and_then (λ n. if n % step == 0 then Some (n / step) else None) number

-- minus n in two's complement, where `half` of the values are negative
abbrev pub negated : ℕ → Option ℕ → Option ℕ
negated half number = option_map (λ n. if n == 0 then 0 else 2 * half - n) number

-- the byte of a hexadecimal digit
abbrev pub hex_digit : ℕ → ℕ
hex_digit d = if nat_lt d 10 then 48 + d else 87 + d

-- the last k hexadecimal digits of a number
unfoldable pub hex_digits : ℕ → ℕ → List ℕ
hex_digits zero n = []
hex_digits (suc k) n = hex_digits k (n / 16) ++ hex_digit (n % 16) ∷ []

-- the number of a control register, from its name or from digits
unfoldable pub csr : List ℕ → Option ℕ
csr text = option_or (option_map register_number (with_name register_name control_registers text)) (at_most 4095 (number text))

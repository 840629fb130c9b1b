-- The value that a slot reads from the tokens, and the one text that it prints for an operand (V extension, "Vector Masking",
-- "Configuration-Setting Instructions"; the ranges are those of the fields). This project prints vtype by names only if no bit is reserved.
use Rattle.std.specs.Prelude.{ℕ, ◌+◌, ◌-◌, ◌*◌, ◌/◌, ◌%◌, ◌^◌, List, [], ◌∷◌, ◌++◌, Option, Some, option_map, Result, Ok, Err, nat_lt, ◌==◌, if◌then◌else◌, codes, decimal}
use Rattle.std.specs.Option.{ok_or, option_map_or}
use Rattle.std.specs.Str.{bytes_eq}
use Rattle.rv_model.specs.assembler.Tokens.{Token}
use Rattle.rv_model.specs.assembler.Fields.{bit_count}
use Rattle.rv_model.specs.assembler.Numbers.{literal, register, number, at_most, in_steps, negated, csr, hex_digits}
use Rattle.rv_model.specs.vector.Types.{Sew, Lmul}
use Rattle.rv_model.specs.vector.TypeNames.{lmul_name, lmuls, mask_name, with_name, policies, sew_name, sews, tail_name}
use Rattle.rv_model.specs.vector.TypeRules.{lmul_number, lmul_with_number, sew_number, sew_with_number}
use Rattle.rv_model.specs.vector.ControlRegisters.{control_register, register_name}
use Rattle.rv_model.specs.instructions.FixedBits.{flag_bit}
use Rattle.rv_model.specs.declared.assembler.forms.SignedField.{SignedField}
use Rattle.rv_model.specs.declared.assembler.forms.SignedField.TheVariants as signed
use Rattle.rv_model.specs.declared.assembler.forms.Slot.{Slot}
use Rattle.rv_model.specs.declared.assembler.forms.Slot.TheVariants.{Comma, Open, Close, V0, Scalar, Vector, Unsigned, Signed, Csr, VectorType, ShortVectorType, Mask, Word}

-- sequential composition: apply f to the result, unless it is a refusal
infixl 10 ◌>>=◌
abbrev pub ◌>>=◌ : {A B : Type 0} → Result A ℕ → (A → Result B ℕ) → Result B ℕ
(Ok x) >>= f = f x
(Err e) >>= f = Err e

-- the value and the remaining tokens, if the token has a value; otherwise the token's column
abbrev pub accept : ℕ → List Token → Option ℕ → Result (ℕ × List Token) ℕ
accept column ts value = ok_or (option_map (λ v. (v, ts)) value) column

-- the value of one token; `end` is the column past the end of the text
abbrev pub one : ℕ → (List ℕ → Option ℕ) → List Token → Result (ℕ × List Token) ℕ
one end f [] = Err end
one end f (t ∷ ts) = accept t.column ts (f t.text)

-- the number of negative values of a signed field
abbrev pub half : SignedField → ℕ
half field = 2 ^ (bit_count (Signed field) - 1)

-- the bytes in one unit of a signed field: distances are counted in units of two bytes
abbrev pub scale : SignedField → ℕ
scale signed.Branch = 2
scale signed.Jump = 2
scale s = 1

-- a number, or `-` and a number
abbrev pub signed_number : ℕ → ℕ → ℕ → List Token → Result (ℕ × List Token) ℕ
signed_number end size count [] = Err end
signed_number end size count (t ∷ ts) =
    if bytes_eq t.text (codes "-") then one end (λ text. negated count (in_steps size (at_most (size * count) (number text)))) ts
    else accept t.column ts (in_steps size (at_most (size * count - 1) (number t.text)))

-- 0 for `, v0.t`, 1 at the end of the text
abbrev pub read_mask : ℕ → List Token → Result (ℕ × List Token) ℕ
read_mask end [] = Ok (1, [])
read_mask end (t ∷ ts) = if bytes_eq t.text (codes ",") then one end (literal (codes "v0.t")) ts else Err t.column

-- the names of vtype's fields after the first: vlmul, tail and mask
unfoldable pub vtype_names : ℕ → ℕ → List Token → Result (ℕ × List Token) ℕ
vtype_names end width ts = do
  a ← one end (literal (codes ",")) ts
  multiplier ← one end (λ text. option_map lmul_number (with_name lmul_name lmuls text)) a.1
  b ← one end (literal (codes ",")) multiplier.1
  tail ← one end (λ text. option_map flag_bit (with_name tail_name policies text)) b.1
  c ← one end (literal (codes ",")) tail.1
  inactive ← one end (λ text. option_map flag_bit (with_name mask_name policies text)) c.1
  Ok (multiplier.0 + width * 8 + tail.0 * 64 + inactive.0 * 128, inactive.1)

-- vtype by its names if the first token is an element width; otherwise this token as a number below `count`
abbrev pub vtype : ℕ → ℕ → List Token → Result (ℕ × List Token) ℕ
vtype end count [] = Err end
vtype end count (t ∷ ts) =
    option_map_or (λ width. vtype_names end width ts) (option_map sew_number (with_name sew_name sews t.text))
    (accept t.column ts (at_most (count - 1) (number t.text)))

-- the value that a slot reads from the tokens, and the remaining tokens; or the column of the first token that doesn't fit
abbrev pub read : ℕ → Slot → List Token → Result (ℕ × List Token) ℕ
read end Comma ts = one end (literal (codes ",")) ts
read end Open ts = one end (literal (codes "(")) ts
read end Close ts = one end (literal (codes ")")) ts
read end V0 ts = one end (literal (codes "v0")) ts
read end (Scalar p) ts = one end (register 120) ts
read end (Vector p) ts = one end (register 118) ts
read end (Unsigned u) ts = one end (λ text. at_most (2 ^ bit_count (Unsigned u) - 1) (number text)) ts
read end (Signed s) ts = signed_number end (scale s) (half s) ts
read end Csr ts = one end csr ts
read end VectorType ts = vtype end 2048 ts
read end ShortVectorType ts = vtype end 1024 ts
read end Mask ts = read_mask end ts
read end Word ts = one end (λ text. at_most (2 ^ 32 - 1) (number text)) ts

-- a signed number, in units of `size` bytes
abbrev pub signed_text : ℕ → ℕ → ℕ → List ℕ
signed_text size count v = if nat_lt v count then decimal (size * v) else codes "-" ++ decimal (size * (2 * count - v))

-- vtype by the names of its fields if neither vsew nor vlmul is reserved, otherwise as a number
abbrev pub vtype_named : Option Sew → Option Lmul → ℕ → List ℕ
vtype_named (Some sew) (Some lmul) v =
    sew_name sew ++ codes ", " ++ lmul_name lmul ++ codes ", " ++ tail_name (v / 64 % 2 == 1) ++ codes ", " ++ mask_name (v / 128 % 2 == 1)
vtype_named _ _ v = decimal v

-- vtype by names if it has names and no bit from 8 up is set, otherwise as a number
abbrev pub vtype_text : ℕ → List ℕ
vtype_text v = if nat_lt v 256 then vtype_named (sew_with_number (v / 8 % 8)) (lmul_with_number (v % 8)) v else decimal v

-- the one text of an operand
abbrev pub printed : Slot → ℕ → List ℕ
printed Comma v = codes ", "
printed Open v = codes "("
printed Close v = codes ")"
printed V0 v = codes "v0"
printed (Scalar p) v = codes "x" ++ decimal v
printed (Vector p) v = codes "v" ++ decimal v
printed (Unsigned u) v = decimal v
printed (Signed s) v = signed_text (scale s) (half s) v
printed Csr v = option_map_or register_name (control_register v) (decimal v)
printed VectorType v = vtype_text v
printed ShortVectorType v = vtype_text v
printed Mask v = if v == 0 then codes ", v0.t" else []
printed Word v = codes "0x" ++ hex_digits 8 v

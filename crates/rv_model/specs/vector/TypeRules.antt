-- The numbers of vector types, which of them are supported, and the length and type that a request sets ("V" Vector Extension 1.0,
-- sections 3.4, 6.1 to 6.3). Choices that the standard leaves open: element widths above LMUL x 64 are not supported, and the length is
-- the lesser of the requested length and VLMAX. A request that keeps the length requires the same VLMAX.
use Rattle.std.specs.Prelude.{ℕ, ◌+◌, ◌*◌, ◌^◌, ◌==◌, nat_lt, nat_le, min, find, Bool, false, Option, Some, None, if◌then◌else◌}
use Rattle.std.specs.Option.{option_map_or}
use Rattle.rv_model.specs.vector.TypeNames.{sews, lmuls}
use Rattle.rv_model.specs.vector.Types.{Sew, E8, E16, E32, E64, Lmul, Mf8, Mf4, Mf2, M1, M2, M4, M8, VType}
use Rattle.rv_model.specs.declared.vector.request.RequestedLength.{RequestedLength}
use Rattle.rv_model.specs.declared.vector.request.RequestedLength.TheVariants.{Elements, Maximum, Keep}
use Rattle.rv_model.specs.declared.vector.request.VectorRequest.{VectorRequest}
use Rattle.rv_model.specs.instructions.FixedBits.{field, flag_bit}
use Rattle.rv_model.specs.vector.Groups.{sew_bits, lmul_eighths, vlmax, Configuration, initial_configuration}

-- vsew, bits 5 to 3
abbrev pub sew_number : Sew → ℕ
sew_number E8 = 0
sew_number E16 = 1
sew_number E32 = 2
sew_number E64 = 3

-- vlmul, bits 2 to 0
abbrev pub lmul_number : Lmul → ℕ
lmul_number M1 = 0
lmul_number M2 = 1
lmul_number M4 = 2
lmul_number M8 = 3
lmul_number Mf8 = 5
lmul_number Mf4 = 6
lmul_number Mf2 = 7

-- the value of vtype, with vta in bit 6 and vma in bit 7; without a vector type, only vill is set, bit 63
abbrev pub vtype_number : Option VType → ℕ
vtype_number None = 2 ^ 63
vtype_number (Some t) =
    lmul_number t.lmul + sew_number t.sew * 2 ^ 3 + flag_bit t.tail_agnostic * 2 ^ 6 + flag_bit t.mask_agnostic * 2 ^ 7

-- the element width with a value of vsew
abbrev pub sew_with_number : ℕ → Option Sew
sew_with_number n = find (λ sew. n == sew_number sew) sews

-- the multiplier with a value of vlmul
abbrev pub lmul_with_number : ℕ → Option Lmul
lmul_with_number n = find (λ lmul. n == lmul_number lmul) lmuls

-- the vector type of these parts, if it is supported, as in `IsSupported` of `Groups`
abbrev pub supported_type : Option Sew → Option Lmul → Bool → Bool → Option VType
supported_type (Some sew) (Some lmul) tail mask =
    if nat_le (sew_bits sew) (lmul_eighths lmul * 8)
    then Some (record { sew = sew; lmul = lmul; tail_agnostic = tail; mask_agnostic = mask })
    else None
supported_type _ _ tail mask = None

-- the vector type with a value of vtype; none if it is not supported, or if any bit from 8 up is set
abbrev pub vector_type : ℕ → Option VType
vector_type n =
    if nat_lt n (2 ^ 8)
    then supported_type (sew_with_number (field 3 3 n)) (lmul_with_number (field 0 3 n)) (field 6 1 n == 1) (field 7 1 n == 1)
    else None

-- the configuration that a supported type sets. `Keep` keeps the length if the old type, if there is one, has the same VLMAX as the new
-- one; otherwise only vill is set.
abbrev pub with_length : Configuration → VType → RequestedLength → Configuration
with_length old t (Elements n) = record { vl = min n (vlmax t); vtype = Some t }
with_length old t Maximum = record { vl = vlmax t; vtype = Some t }
with_length old t Keep =
    if option_map_or (λ u. vlmax u == vlmax t) old.vtype false
    then record { vl = old.vl; vtype = Some t } else initial_configuration

-- the configuration that a request sets: that of its type, if the type is supported; otherwise only vill, and length 0
unfoldable pub requested : Configuration → VectorRequest → Configuration
requested old request = option_map_or (λ t. with_length old t request.length) (vector_type request.vtype) initial_configuration

-- Bounds on the value in a slot, which the functions of the assembler require.
use Rattle.std.specs.Prelude.{ℕ, ◌+◌, ◌-◌, ◌*◌, ◌^◌}
use Rattle.rv_model.specs.assembler.Fields.{bit_count}
use Rattle.rv_model.specs.assembler.Slots.{half}
use Rattle.rv_model.specs.declared.assembler.forms.UnsignedField.{UnsignedField}
use Rattle.rv_model.specs.declared.assembler.forms.Slot.{Slot}
use Rattle.rv_model.specs.declared.assembler.forms.Slot.TheVariants.{Scalar, Vector, Unsigned, Signed, Csr, VectorType, ShortVectorType, Mask, Word}

-- the largest number of an unsigned field
abbrev pub limit : UnsignedField → ℕ
limit field = 2 ^ bit_count (Unsigned field) - 1

-- number of values of a slot
abbrev pub value_count : Slot → ℕ
value_count (Scalar p) = 32
value_count (Vector p) = 32
value_count (Unsigned u) = limit u + 1
value_count (Signed s) = 2 * half s
value_count Csr = 4096
value_count VectorType = 2048
value_count ShortVectorType = 1024
value_count Mask = 2
value_count Word = 2 ^ 32
value_count s = 1

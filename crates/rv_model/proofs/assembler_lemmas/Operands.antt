-- The operands of a word are in range.
use Rattle.std.proofs.Common.{ℕ, ◌/◌, ◌^◌, ◌<◌, arith}
use Rattle.std.proofs.lemmas.Nat.{mod_below, pow_pos}
use Rattle.rv_model.specs.instructions.FixedBits.{field}
use Rattle.rv_model.specs.declared.assembler.forms.UnsignedField.{UnsignedField}
use Rattle.rv_model.specs.declared.assembler.forms.Slot.{Slot}
use Rattle.rv_model.specs.lending.Slots.{limit, value_count}
use Rattle.rv_model.specs.assembler.Fields.{value_of}

pub field_below : (low len w : ℕ) → field low len w < 2 ^ len
field_below low len w = mod_below (w / 2 ^ low) (2 ^ len) (pow_pos len)

-- the value of a word's operand is below the number of values of its slot
pub value_below : (s : Slot) (w : ℕ) → value_of s w < value_count s
value_below s w = search (arith, field_below)

-- the largest number of an unsigned field fits 32 bits
pub limit_small : (u : UnsignedField) → limit u < 2 ^ 32
limit_small u = search arith

-- Roles of register operands, and tests of operands together with a destination.
use Rattle.std.specs.Prelude.{ℕ, ◌+◌, ◌*◌, Bool, true, false, ◌&&◌, ◌||◌, not, nat_le, nat_lt, ◌==◌}
use Rattle.rv_model.specs.declared.instructions.source.Source.{Source}
use Rattle.rv_model.specs.declared.instructions.source.Source.TheVariants as source
use Rattle.rv_model.specs.declared.legality.Content.TheVariants.{Elements}
use Rattle.rv_model.specs.declared.legality.Operand.{Operand}
use Rattle.rv_model.specs.declared.legality.Role.{Role}
use Rattle.rv_model.specs.declared.legality.Role.TheVariants.{Read, Write, Apart}
use Rattle.rv_model.specs.declared.vector.types.VType.{VType}
use Rattle.rv_model.specs.legality.OperandShapes.{group, mask}
use Rattle.rv_model.specs.legality.RegisterOperands.{allows, is_group}
use Rattle.rv_model.specs.vector.Groups.{group_type, lmul_eighths, registers, wide_type}

-- registers that may not overlap the mask of the same instruction
abbrev pub is_apart_from_mask : Role → Bool
is_apart_from_mask Write = true
is_apart_from_mask Apart = true
is_apart_from_mask _ = false

-- for each field, a group of elements of `width` bits; `emul` is the multiplier of one group, in eighths of a register
abbrev pub groups_of : Role → ℕ → ℕ → ℕ → ℕ → Operand
groups_of role fields r width emul = record { role = role; first = r; content = Elements width; emul = emul; fields = fields }

-- a source that is a legal group, and that the destination may be used with
abbrev pub is_compatible_source : Operand → Operand → Bool
is_compatible_source d s = is_group s && allows d s

-- a test of the register of a second source, if it is a vector
abbrev pub of_vector : Source → (ℕ → Bool) → Bool
of_vector (source.V vs1) test = test vs1
of_vector (source.X rs1) test = true
of_vector (source.I imm) test = true

-- a group of the vector type that doesn't start with `vd`
abbrev pub is_other_group : ℕ → ℕ → VType → Bool
is_other_group vd first t = is_group (group Read first (group_type t)) && not (vd == first)

-- a group of elements of twice SEW; `vd` is outside of the group, or is its first register
abbrev pub is_narrowing_source : ℕ → ℕ → VType → Bool
is_narrowing_source vd first t =
    is_group (group Read first (wide_type t)) && (nat_le vd first || nat_le (first + registers (2 * lmul_eighths t.lmul)) vd)

-- a group of the vector type; `vd` is outside of the group, or is its first register
abbrev pub may_be_compared_into : ℕ → ℕ → VType → Bool
may_be_compared_into vd first t =
    is_group (group Read first (group_type t)) && (nat_le vd first || nat_le (first + registers (lmul_eighths t.lmul)) vd)

-- a mask outside of the group of the vector type that starts with `vd`
abbrev pub is_mask_outside : ℕ → ℕ → VType → Bool
is_mask_outside vd register t =
    is_group (mask Read register) && (nat_lt register vd || nat_le (vd + registers (lmul_eighths t.lmul)) register)

-- Groups of instructions by the opcodes of their words (Unprivileged ISA 20191213, chapter 24; V extension, "Vector Instruction Formats").
use Rattle.std.specs.Prelude.{ℕ, ◌≡◌, ◌⊎◌, Bool, false, true, None, Some, bit_and}
use Rattle.rv_model.specs.declared.instructions.instruction.Instr.TheVariants as instr
use Rattle.rv_model.specs.declared.instructions.scalar.ScalarInstr.{ScalarInstr}
use Rattle.rv_model.specs.declared.instructions.scalar.ScalarInstr.TheVariants.{System}
use Rattle.rv_model.specs.instructions.Table.{scan, table}
use Rattle.rv_decode.specs.declared.decoder.Kind.{Kind}
use Rattle.rv_decode.specs.declared.decoder.Kind.TheVariants as kind

-- scalar instructions other than calls and breakpoints, which have the opcode SYSTEM
abbrev pub is_scalar : ScalarInstr → Bool
is_scalar (System op) = false
is_scalar _ = true

-- the meaning of each kind: the scalar instruction of the word's row; an opcode LOAD-FP or STORE-FP, OP-V or SYSTEM, which may or may not
-- match a row; or no row that matches
abbrev pub IsKind : ℕ → Kind → Type 0
IsKind word (kind.Scalar i) = (scan table word ≡ Some (instr.Scalar i)) × (is_scalar i ≡ true)
IsKind word kind.Access = (bit_and word 0x7c ≡ 0x04) ⊎ (bit_and word 0x7c ≡ 0x24)
IsKind word kind.Operation = bit_and word 0x7c ≡ 0x54
IsKind word kind.System = bit_and word 0x7c ≡ 0x70
IsKind word kind.Unknown = scan table word ≡ None

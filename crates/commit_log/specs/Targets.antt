-- The vector registers that an instruction writes ("V" Vector Extension 1.0, section 5.2).
use Rattle.std.specs.Prelude.{ℕ, ◌*◌, ◌-◌, List, [], flat_map, min, Option}
use Rattle.std.specs.List.{filter, range_with_len}
use Rattle.std.specs.Option.{unwrap_or}
use Rattle.rv_model.specs.declared.instructions.instruction.Instr.{Instr}
use Rattle.rv_model.specs.legality.Legality.{operands}
use Rattle.rv_model.specs.declared.legality.Operand.{Operand}
use Rattle.rv_model.specs.step.Changes.{is_destination}
use Rattle.rv_model.specs.vector.Groups.{registers}
use Rattle.rv_model.specs.declared.vector.sizes.TheConstants.{VECTOR_REGISTERS}
use Rattle.rv_model.specs.declared.vector.types.VType.{VType}

-- `count` registers from `first` on, but none past v31; the operands of a legal instruction end inside the register file
abbrev pub registers_from : ℕ → ℕ → List ℕ
registers_from first count = range_with_len first (min count (VECTOR_REGISTERS - first))

-- the registers of an operand
abbrev pub registers_of : Operand → List ℕ
registers_of o = registers_from o.first (o.fields * registers o.emul)

-- the registers that an instruction writes, under the vector type before it
abbrev pub vector_targets : Instr → Option VType → List ℕ
vector_targets i t = flat_map registers_of (filter (λ o. is_destination o.role) (unwrap_or (operands i t) []))

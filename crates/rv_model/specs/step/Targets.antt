-- The scalar register that an instruction writes (Unprivileged ISA 20191213, chapters 2, 5, 7 and 9). An instruction that writes none has
-- the target x0, which never changes.
use Rattle.std.specs.Prelude.{ℕ, ◌≡◌, Option}
use Rattle.std.specs.Option.{option_map_or}
use Rattle.rv_model.specs.declared.instructions.csr.CsrInstr.TheVariants as csr
use Rattle.rv_model.specs.declared.instructions.instruction.Instr.{Instr}
use Rattle.rv_model.specs.declared.instructions.instruction.Instr.TheVariants as instr
use Rattle.rv_model.specs.declared.instructions.operations.SystemOp.{SystemOp}
use Rattle.rv_model.specs.declared.instructions.operations.SystemOp.TheVariants as system
use Rattle.rv_model.specs.declared.instructions.scalar.ScalarInstr.{ScalarInstr}
use Rattle.rv_model.specs.declared.instructions.scalar.ScalarInstr.TheVariants.{Upper, Jump, JumpRegister, Load, RegisterImmediate, ShiftImmediate, ShiftImmediateWord, RegisterRegister, System}
use Rattle.rv_model.specs.declared.instructions.vector.VectorInstr.{VectorInstr}
use Rattle.rv_model.specs.declared.instructions.vector.VectorInstr.TheVariants.{SetVli, SetIvli, SetVl, MaskToScalar, MoveToScalar}
use Rattle.rv_model.specs.declared.scalar.Scalar.{Scalar}
use Rattle.rv_model.specs.instructions.Table.{scan, table}
use Rattle.rv_model.specs.scalar.Registers.{with_register}
use Rattle.rv_model.specs.step.Hart.{HartState}
use Rattle.rv_model.specs.step.Step.{step, word_at}

-- a0, which holds the result of a system call; x0 for EBREAK, which has no result
abbrev pub target_of_system : SystemOp → ℕ
target_of_system system.Ecall = 10
target_of_system system.Ebreak = 0

-- the target of an instruction on scalar registers
abbrev pub target_of_scalar : ScalarInstr → ℕ
target_of_scalar (Upper op rd imm) = rd
target_of_scalar (Jump rd imm) = rd
target_of_scalar (JumpRegister rd rs1 imm) = rd
target_of_scalar (Load op rd rs1 imm) = rd
target_of_scalar (RegisterImmediate op rd rs1 imm) = rd
target_of_scalar (ShiftImmediate op rd rs1 shamt) = rd
target_of_scalar (ShiftImmediateWord op rd rs1 shamt) = rd
target_of_scalar (RegisterRegister op rd rs1 rs2) = rd
target_of_scalar (System op) = target_of_system op
target_of_scalar _ = 0

-- the target of a vector instruction that neither loads nor stores
abbrev pub target_of_vector : VectorInstr → ℕ
target_of_vector (SetVli rd rs1 vtype) = rd
target_of_vector (SetIvli rd avl vtype) = rd
target_of_vector (SetVl rd rs1 rs2) = rd
target_of_vector (MaskToScalar op rd vs2 vm) = rd
target_of_vector (MoveToScalar rd vs2) = rd
target_of_vector _ = 0

-- the target of any instruction
abbrev pub scalar_target : Instr → ℕ
scalar_target (instr.Scalar i) = target_of_scalar i
scalar_target (instr.Csr (csr.Register op rd rs1 number)) = rd
scalar_target (instr.Csr (csr.Immediate op rd imm number)) = rd
scalar_target (instr.Vector i) = target_of_vector i
scalar_target (instr.Access i) = 0

-- the target of an optional instruction; x0 if there is none
abbrev pub target_of : Option Instr → ℕ
target_of o = option_map_or scalar_target o 0

-- the target of the word at a state's program counter
abbrev pub target_at : HartState → ℕ
target_at s = target_of (scan table (word_at s.memory s.scalar.pc))

-- At most one register and the program counter have new values.
pub record Wrote (register : ℕ) (old new : Scalar) : Type 0 where
  pub value : ℕ
  pub pc : ℕ
  pub is : new ≡ record (with_register register value old) { pc = pc }

-- A step writes no scalar register except the target of its instruction, and the program counter.
abbrev pub WritesTarget : Type 0
WritesTarget = (limit : ℕ) (s : HartState) → Wrote (target_at s) s.scalar (step limit s).state.scalar

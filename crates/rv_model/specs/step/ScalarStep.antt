-- The execution of one scalar instruction (Unprivileged ISA 20191213, chapters 2, 5, 7 and 9).
use Rattle.std.specs.Prelude.{ℕ, ◌%◌, ◌==◌, ◌&&◌, ◌||◌, Bool, Option, Some, None, if◌then◌else◌}
use Rattle.std.specs.Int.{byte_len, to_le_bytes, w64}
use Rattle.rv_model.specs.declared.vector.control_register.ControlRegister.{ControlRegister}
use Rattle.rv_model.specs.declared.memory.Access.TheVariants as access
use Rattle.rv_model.specs.declared.instructions.scalar.ScalarInstr.{ScalarInstr}
use Rattle.rv_model.specs.declared.instructions.scalar.ScalarInstr.TheVariants.{Upper, Jump, JumpRegister, Branch, Load, Store, RegisterImmediate, ShiftImmediate, ShiftImmediateWord, RegisterRegister, Fence, System}
use Rattle.rv_model.specs.declared.instructions.csr.CsrInstr.{CsrInstr}
use Rattle.rv_model.specs.declared.instructions.csr.CsrInstr.TheVariants.{Register, Immediate}
use Rattle.rv_model.specs.declared.instructions.operations.CsrOp.{CsrOp}
use Rattle.rv_model.specs.declared.instructions.operations.LoadOp.{LoadOp}
use Rattle.rv_model.specs.declared.instructions.operations.RegisterOp.{RegisterOp}
use Rattle.rv_model.specs.declared.instructions.operations.StoreOp.{StoreOp}
use Rattle.rv_model.specs.declared.instructions.operations.SystemOp.TheVariants as system
use Rattle.rv_model.specs.declared.step.step_end.Cause.TheVariants.{MisalignedTarget, IllegalInstruction, LoadAccess, StoreAccess}
use Rattle.rv_model.specs.declared.step.step_end.StepEnd.TheVariants.{Ran, Exit, Ebreak}
use Rattle.rv_model.specs.vector.ControlRegisters.{control_register, is_read_only}
use Rattle.rv_model.specs.scalar.ControlTransfer.{is_taken, register_target}
use Rattle.rv_model.specs.instructions.Immediates.{b_immediate, i_immediate, j_immediate, s_immediate}
use Rattle.rv_model.specs.scalar.Arithmetic.{immediate_op_form, register_op_value, shift_immediate_form, shift_immediate_word_form, sum, upper_value}
use Rattle.rv_model.specs.step.Hart.{HartState, Scalar, Stepped, ends, faults, gives, retires}
use Rattle.rv_model.specs.scalar.LoadsAndStores.{load_width, extended, number_at, store_width}
use Rattle.rv_model.specs.memory.Memory.{can_access, put_bytes}
use Rattle.rv_model.specs.scalar.Registers.{read_register, with_register}
use Rattle.rv_model.specs.step.WriteCall.{call_fails, write_call}
use Rattle.rv_model.specs.vector.Control.{control_value, csr_form, with_control, written_value, is_write}

-- continue at a target with these registers; fault if the target isn't a multiple of 4
abbrev pub jumps : ℕ → Scalar → HartState → Stepped
jumps target scalar s =
    if target % 4 == 0 then ends Ran (record s { scalar = record scalar { pc = target } })
    else faults MisalignedTarget target s

-- a jump, which writes the address of the following instruction to a register
abbrev pub jump_step : ℕ → ℕ → HartState → Stepped
jump_step rd target s = jumps target (with_register rd (sum w64 s.scalar.pc 4) s.scalar) s

-- a branch
abbrev pub branch_step : Bool → ℕ → HartState → Stepped
branch_step taken target s = if taken then jumps target s.scalar s else retires s.scalar s

-- a load, which faults if one of its bytes may not be read
abbrev pub load_step : LoadOp → ℕ → ℕ → HartState → Stepped
load_step op rd addr s =
    if can_access access.Load s.memory addr (byte_len (load_width op))
    then gives rd (extended op (number_at (load_width op) s.memory addr)) s
    else faults LoadAccess addr s

-- a store of the lowest bytes of a number, which faults if one of its bytes may not be written
abbrev pub store_step : StoreOp → ℕ → ℕ → HartState → Stepped
store_step op addr value s =
    if can_access access.Store s.memory addr (byte_len (store_width op))
    then retires s.scalar (record s { memory = put_bytes s.memory addr (to_le_bytes (store_width op) value) })
    else faults StoreAccess addr s

-- An access of a control register. `source` is the register number or the immediate of the operand, and `operand` its value. The access is
-- illegal if there is no such control register, or if it writes a read-only one.
abbrev pub csr_step : Option ControlRegister → CsrOp → ℕ → ℕ → ℕ → ℕ → HartState → Stepped
csr_step None op rd source operand word s = faults IllegalInstruction word s
csr_step (Some register) op rd source operand word s =
    let value = control_value register s.vector in
    if is_write op source && is_read_only register then faults IllegalInstruction word s
    else if is_write op source then gives rd value (record s { vector = with_control register (written_value op value operand) s.vector })
    else gives rd value s

-- ECALL, by the call number in a7, as in Linux: 93 and 94 exit with a0 modulo 256, 64 writes, and any other number fails with error 38
unfoldable pub environment_call : HartState → Stepped
environment_call s =
    let number = read_register s.scalar 17 in
    if number == 93 || number == 94 then ends (Exit (read_register s.scalar 10 % 256)) s
    else if number == 64 then write_call s
    else call_fails 38 s

-- an operation on a register and a number, which writes its result to a register
abbrev pub operates : RegisterOp → ℕ → ℕ → ℕ → HartState → Stepped
operates op rd rs1 number s = gives rd (register_op_value op (read_register s.scalar rs1) number) s

-- ---- each instruction

-- Instructions of RV64I and of its extension M. Addresses are modulo 2 ^ 64; EBREAK stops the program at its own address.
abbrev pub scalar_step : ScalarInstr → HartState → Stepped
scalar_step (Upper op rd imm) s = gives rd (upper_value op s.scalar.pc imm) s
scalar_step (Jump rd imm) s = jump_step rd (sum w64 s.scalar.pc (j_immediate imm)) s
scalar_step (JumpRegister rd rs1 imm) s = jump_step rd (register_target (read_register s.scalar rs1) imm) s
scalar_step (Branch op rs1 rs2 imm) s =
    branch_step (is_taken op (read_register s.scalar rs1) (read_register s.scalar rs2)) (sum w64 s.scalar.pc (b_immediate imm)) s
scalar_step (Load op rd rs1 imm) s = load_step op rd (sum w64 (read_register s.scalar rs1) (i_immediate imm)) s
scalar_step (Store op rs1 rs2 imm) s =
    store_step op (sum w64 (read_register s.scalar rs1) (s_immediate imm)) (read_register s.scalar rs2) s
scalar_step (RegisterImmediate op rd rs1 imm) s = operates (immediate_op_form op) rd rs1 (i_immediate imm) s
scalar_step (ShiftImmediate op rd rs1 shamt) s = operates (shift_immediate_form op) rd rs1 shamt s
scalar_step (ShiftImmediateWord op rd rs1 shamt) s = operates (shift_immediate_word_form op) rd rs1 shamt s
scalar_step (RegisterRegister op rd rs1 rs2) s = operates op rd rs1 (read_register s.scalar rs2) s
scalar_step (Fence rd rs1 ordering) s = retires s.scalar s
scalar_step (System system.Ecall) s = environment_call s
scalar_step (System system.Ebreak) s = ends Ebreak s

-- instructions that read and write a control register; `word` is the instruction's word
abbrev pub csr_executed : CsrInstr → ℕ → HartState → Stepped
csr_executed (Register op rd rs1 csr) word s = csr_step (control_register csr) op rd rs1 (read_register s.scalar rs1) word s
csr_executed (Immediate op rd imm csr) word s = csr_step (control_register csr) (csr_form op) rd imm imm word s

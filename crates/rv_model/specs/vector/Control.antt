-- The values of the vector extension's control registers, and the effect of a write ("V" Vector Extension 1.0, sections 3.4 to 3.10;
-- Unprivileged ISA 20191213, chapter 9, "Zicsr"). A write ignores the bits that a register doesn't have.
use Rattle.std.specs.Prelude.{ℕ, ◌+◌, ◌*◌, ◌/◌, ◌%◌, ◌^◌, ◌==◌, not, bit_and, bit_or, Bool, true}
use Rattle.std.specs.Int.{w64, bit_not}
use Rattle.rv_model.specs.vector.Types.{ControlRegister, VLENB}
use Rattle.rv_model.specs.declared.vector.state.VState.{VState}
use Rattle.rv_model.specs.declared.vector.control_register.ControlRegister.TheVariants.{Vstart, Vxsat, Vxrm, Vcsr, Vl, Vtype, Vlenb}
use Rattle.rv_model.specs.instructions.Types.{CsrOp, CsrImmediateOp}
use Rattle.rv_model.specs.declared.instructions.operations.CsrOp.TheVariants.{Csrrw, Csrrs, Csrrc}
use Rattle.rv_model.specs.declared.instructions.operations.CsrImmediateOp.TheVariants.{Csrrwi, Csrrsi, Csrrci}
use Rattle.rv_model.specs.instructions.FixedBits.{flag_bit}
use Rattle.rv_model.specs.vector.RoundingModes.{rounding_number, rounding_mode}
use Rattle.rv_model.specs.vector.TypeRules.{vtype_number}

-- the value that a read of a register returns
abbrev pub control_value : ControlRegister → VState → ℕ
control_value Vstart v = v.vstart
control_value Vxsat v = flag_bit v.vxsat
control_value Vxrm v = rounding_number v.vxrm
control_value Vcsr v = flag_bit v.vxsat + 2 * rounding_number v.vxrm
control_value Vl v = v.conf.vl
control_value Vtype v = vtype_number v.conf.vtype
control_value Vlenb v = VLENB

-- the vector state after a write of a number to a register: vstart has 8 bits, vxsat 1, vxrm 2, vcsr 3. The others are read-only.
abbrev pub with_control : ControlRegister → ℕ → VState → VState
with_control Vstart n v = record v { vstart = n % 2 ^ 8 }
with_control Vxsat n v = record v { vxsat = n % 2 == 1 }
with_control Vxrm n v = record v { vxrm = rounding_mode n }
with_control Vcsr n v = record v { vxsat = n % 2 == 1; vxrm = rounding_mode (n / 2) }
with_control _ n v = v  -- excluded: a write of these is illegal

-- the number that an instruction writes, from the old value and the operand
abbrev pub written_value : CsrOp → ℕ → ℕ → ℕ
written_value Csrrw old operand = operand
written_value Csrrs old operand = bit_or old operand
written_value Csrrc old operand = bit_and old (bit_not w64 operand)

-- whether an instruction writes: CSRRW always, the others unless the number of the source register, or the immediate, is 0
abbrev pub is_write : CsrOp → ℕ → Bool
is_write Csrrw source = true
is_write _ source = not (source == 0)

-- the register form of an operation with an immediate
abbrev pub csr_form : CsrImmediateOp → CsrOp
csr_form Csrrwi = Csrrw
csr_form Csrrsi = Csrrs
csr_form Csrrci = Csrrc

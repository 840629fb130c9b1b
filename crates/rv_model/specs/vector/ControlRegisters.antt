-- The control registers of the vector extension: their numbers, their names, and which of them may be written ("V" Vector Extension 1.0,
-- sections 3.4 to 3.10). The list is complete.
use Rattle.std.specs.Prelude.{ℕ, ◌==◌, nat_le, Bool, List, [], ◌∷◌, Option, find, codes}
use Rattle.rv_model.specs.vector.Types.{ControlRegister}
use Rattle.rv_model.specs.declared.vector.control_register.ControlRegister.TheVariants.{Vstart, Vxsat, Vxrm, Vcsr, Vl, Vtype, Vlenb}

-- the number and the name of a register
abbrev pub control_row : ControlRegister → ℕ × List ℕ
control_row Vstart = (0x008, codes "vstart")
control_row Vxsat = (0x009, codes "vxsat")
control_row Vxrm = (0x00a, codes "vxrm")
control_row Vcsr = (0x00f, codes "vcsr")
control_row Vl = (0xc20, codes "vl")
control_row Vtype = (0xc21, codes "vtype")
control_row Vlenb = (0xc22, codes "vlenb")

-- all control registers
abbrev pub control_registers : List ControlRegister
control_registers = Vstart ∷ Vxsat ∷ Vxrm ∷ Vcsr ∷ Vl ∷ Vtype ∷ Vlenb ∷ []

abbrev pub register_number : ControlRegister → ℕ
register_number register = (control_row register).0

abbrev pub register_name : ControlRegister → List ℕ
register_name register = (control_row register).1

-- a register is read-only if both of the upper two bits of its twelve-bit number are set (Unprivileged ISA 20191213, chapter 9)
abbrev pub is_read_only : ControlRegister → Bool
is_read_only register = nat_le 0xc00 (register_number register)

-- the control register with a number, if there is one
abbrev pub control_register : ℕ → Option ControlRegister
control_register number = find (λ register. register_number register == number) control_registers

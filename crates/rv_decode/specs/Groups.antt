-- Rows of the instruction table, by groups of instructions with separate decoders. The groups are instructions of OP-V outside of the
-- manual's funct6 table ("V" Vector Extension 1.0, chapter 19), unit-stride accesses, other accesses, and accesses of control registers.
use Rattle.std.specs.Prelude.{Bool, true, false, List, filter}
use Rattle.rv_model.specs.declared.instructions.instruction.Instr.{Instr}
use Rattle.rv_model.specs.declared.instructions.instruction.Instr.TheVariants as instr
use Rattle.rv_model.specs.declared.instructions.access.AccessInstr.TheVariants.{UnitStride}
use Rattle.rv_model.specs.instructions.Table.{Row, table}
use Rattle.rv_model.specs.lending.OtherOperations.{is_other_operation}

-- the rows whose instructions satisfy `is_one`
unfoldable pub rows_where : (Instr → Bool) → List Row
rows_where is_one = filter (λ r. is_one (r.instr 0)) table

-- an instruction of OP-V outside of the funct6 table
abbrev pub is_other_operation_instr : Instr → Bool
is_other_operation_instr (instr.Vector i) = is_other_operation i
is_other_operation_instr _ = false

-- a unit-stride access whose number of elements is vl
abbrev pub is_unit_stride : Instr → Bool
is_unit_stride (instr.Access (UnitStride op width nf vd rs1 vm)) = true
is_unit_stride _ = false

-- any other vector load or store
abbrev pub is_other_access : Instr → Bool
is_other_access (instr.Access (UnitStride op width nf vd rs1 vm)) = false
is_other_access (instr.Access i) = true
is_other_access _ = false

-- an access of a control register
abbrev pub is_csr : Instr → Bool
is_csr (instr.Csr i) = true
is_csr _ = false

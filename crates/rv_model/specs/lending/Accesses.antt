-- Tests for vector loads and stores ("V" Vector Extension 1.0, chapter 7).
use Rattle.std.specs.Prelude.{Bool, true, false}
use Rattle.rv_model.specs.instructions.Variants.{Instr, UnitStride, Strided, Indexed, MaskAccess}
use Rattle.rv_model.specs.declared.instructions.instruction.Instr.TheVariants as instr

-- vector loads and stores that need a vector type: all but those of whole registers (sections 7.4 to 7.8)
abbrev pub is_typed_access : Instr → Bool
is_typed_access (instr.Access (UnitStride op width nf vd rs1 vm)) = true
is_typed_access (instr.Access (Strided direction width nf vd rs1 rs2 vm)) = true
is_typed_access (instr.Access (Indexed direction order width nf vd rs1 vs2 vm)) = true
is_typed_access (instr.Access (MaskAccess direction vd rs1)) = true
is_typed_access _ = false

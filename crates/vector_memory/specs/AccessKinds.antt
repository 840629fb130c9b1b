-- The kinds of vector loads and stores ("V" Vector Extension 1.0, sections 7.4 to 7.8).
use Rattle.std.specs.Prelude.{Bool, true, false}
use Rattle.rv_model.specs.declared.instructions.access.AccessInstr.{AccessInstr}
use Rattle.rv_model.specs.declared.instructions.access.AccessInstr.TheVariants.{UnitStride, Strided, Indexed}

-- whether an access is an indexed load or store
abbrev pub is_offset_access : AccessInstr → Bool
is_offset_access (Indexed direction order width nf vd rs1 vs2 vm) = true
is_offset_access _ = false

-- whether an access moves elements or segments, not whole registers or a mask
abbrev pub is_segment_access : AccessInstr → Bool
is_segment_access (UnitStride op width nf vd rs1 vm) = true
is_segment_access (Strided direction width nf vd rs1 rs2 vm) = true
is_segment_access (Indexed direction order width nf vd rs1 vs2 vm) = true
is_segment_access _ = false

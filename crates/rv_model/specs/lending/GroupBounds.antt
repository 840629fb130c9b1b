-- Register groups that end inside the vector register file ("V" Vector Extension 1.0, sections 3.1 and 7.8).
use Rattle.std.specs.Prelude.{ℕ, ◌+◌, ◌*◌, ◌/◌, ◌≤◌, ◌≡◌, ⊤}
use Rattle.std.specs.Int.{Width}
use Rattle.rv_model.specs.instructions.Types.{Source}
use Rattle.rv_model.specs.declared.instructions.source.Source.TheVariants as source
use Rattle.rv_model.specs.vector.Types.{GROUP_BYTES, VECTOR_REGISTERS, VLENB, VType}
use Rattle.rv_model.specs.vector.Groups.{GroupType, lmul_eighths, sew_bits, width_bytes, registers}

-- EMUL in eighths of a register, for elements of `bits` bits
abbrev pub emul : ℕ → VType → ℕ
emul bits t = bits * lmul_eighths t.lmul / sew_bits t.sew

-- the group from register `first` on is inside the register file; the multiplier is in eighths of a register
abbrev pub IsInside : ℕ → ℕ → Type 0
IsInside first emul = first + registers emul ≤ VECTOR_REGISTERS

-- the register group of a second operand, if it has one, is inside the register file
abbrev pub SourceIsInside : Source → ℕ → Type 0
SourceIsInside (source.V vs1) emul = IsInside vs1 emul
SourceIsInside (source.X rs1) emul = ⊤
SourceIsInside (source.I imm) emul = ⊤

-- groups of this multiplier have room for the elements of this width before `end`, the end of the body
pub record HasRoom (width : Width) (emul end : ℕ) : Type 0 where
  pub most : emul ≤ 64
  pub room : width_bytes width * end ≤ VLENB * registers emul

-- the indices of a gather, if they are in registers: a group of this multiplier with room for the indices of the body
abbrev pub HasIndices : Source → Width → ℕ → ℕ → Type 0
HasIndices (source.V vs1) width emul end = IsInside vs1 emul × HasRoom width emul end
HasIndices (source.X rs1) width emul end = ⊤
HasIndices (source.I imm) width emul end = ⊤

-- groups of this multiplier have `count` elements of this width in their registers, and these include the elements before the end of the
-- body
pub record HoldsBody (width : Width) (emul count end : ℕ) : Type 0 where
  pub most : emul ≤ 64
  pub room : width_bytes width * end ≤ VLENB * registers emul
  pub least : end ≤ GROUP_BYTES
  pub whole : VLENB * registers emul ≡ width_bytes width * count
  pub size : count ≤ GROUP_BYTES

-- each of the nf + 1 fields of a segment, from register `vd` on, is a group inside the register file, and holds the elements before vl
pub record SegmentsInside (g : GroupType) (vd nf vl : ℕ) : Type 0 where
  pub least : 1 ≤ g.emul
  pub inside : vd + (nf + 1) * registers g.emul ≤ VECTOR_REGISTERS
  pub holds : HoldsBody g.width g.emul (VLENB * registers g.emul / width_bytes g.width) vl

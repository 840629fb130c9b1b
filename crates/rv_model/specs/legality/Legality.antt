-- Legality of vector instructions under a vector type and a vstart ("V" Vector Extension 1.0, sections 3.4.4, 3.7, 5.2, 5.3, 7.4 to 7.9,
-- 11, 12.3, 14, 15, 16 and 18.2). vl has no effect on it. docs/DECISIONS.md describes the choices that the standard leaves open.
use Rattle.std.specs.Prelude.{◌≡◌, ◌≢◌, ℕ, ◌+◌, ◌/◌, Bool, true, false, ◌&&◌, ◌||◌, not, ◌==◌, List, [], ◌∷◌, Option, Some, IsSomeAnd, if◌then◌else◌}
use Rattle.std.specs.Int.{w8}
use Rattle.std.specs.Option.{option_map, option_map_or}
use Rattle.rv_model.specs.instructions.Types.{Direction, ExtendOp, MaskUnaryOp, RegisterCount, UnitOp, VectorOp, Eew}
use Rattle.rv_model.specs.instructions.Variants.{Instr, Arith, Carry, Move, WholeMove, MaskLogic, Compress, MaskToScalar, Extend, MaskUnary, ElementIndex, MoveToScalar, MoveToVector, UnitStride, Strided, Indexed, WholeLoad, WholeStore, MaskAccess}
use Rattle.rv_model.specs.declared.instructions.instruction.Instr.TheVariants as instr
use Rattle.rv_model.specs.declared.instructions.operations.BinaryOp.TheVariants.{Vmulhu, Vmulhsu, Vmulh}
use Rattle.rv_model.specs.declared.instructions.operations.Direction.TheVariants as direction
use Rattle.rv_model.specs.declared.instructions.operations.FixedPointOp.TheVariants.{Vsmul}
use Rattle.rv_model.specs.declared.instructions.operations.MaskUnaryOp.TheVariants.{Scan, Viota}
use Rattle.rv_model.specs.declared.instructions.operations.UnitOp.TheVariants as unit
use Rattle.rv_model.specs.declared.instructions.operations.VectorOp.TheVariants.{Binary, FixedPoint, Reduce, WidenReduce}
use Rattle.rv_model.specs.legality.Types.{Elements, Operand, Role, Read, Write, Apart}
use Rattle.rv_model.specs.declared.legality.Shape.TheVariants.{Single}
use Rattle.rv_model.specs.vector.Types.{VType}
use Rattle.rv_model.specs.legality.OperandShapes.{shape_of, destination, second_source, shape_operands, field_groups, group, mask, v0}
use Rattle.rv_model.specs.legality.RegisterOperands.{AreLegal, are_legal}
use Rattle.rv_model.specs.vector.Groups.{element_width, group_type, sew_bits, sew_width, access_type, extension_divisor, part_type, registers_type, single_type, whole_type}

-- ---- the operands of an instruction

-- the role of the data registers of a load or store
abbrev pub data_role : Direction → Role
data_role direction.Load = Write
data_role direction.Store = Read

abbrev pub unit_role : UnitOp → Role
unit_role unit.Store = Read
unit_role _ = Write

-- the fields of an indexed segment load may not overlap the indices
abbrev pub indexed_role : Direction → ℕ → Role
indexed_role direction.Load nf = if nf == 0 then Write else Apart
indexed_role direction.Store nf = Read

-- the destination of an operation on one mask
abbrev pub mask_result : MaskUnaryOp → ℕ → VType → Operand
mask_result Viota vd t = group Apart vd (group_type t)
mask_result (Scan o) vd t = mask Apart vd

-- vmv1r.v, vmv2r.v, vmv4r.v and vmv8r.v
abbrev pub whole_move_operands : RegisterCount → ℕ → ℕ → VType → List Operand
whole_move_operands count vd vs2 t = group Write vd (whole_type t count) ∷ group Read vs2 (whole_type t count) ∷ []

-- vcompress
abbrev pub compress_operands : ℕ → ℕ → ℕ → VType → List Operand
compress_operands vd vs1 vs2 t = group Apart vd (group_type t) ∷ group Read vs2 (group_type t) ∷ mask Read vs1 ∷ []

-- vs2 of an extension; if SEW is too narrow for the divisor, the width is below 8 bits, which no element has
abbrev pub extension_source : ExtendOp → ℕ → VType → Operand
extension_source o vs2 t = record (group Read vs2 (part_type o t)) { content = Elements (sew_bits t.sew / extension_divisor o) }

-- vzext and vsext
abbrev pub extension_operands : ExtendOp → ℕ → ℕ → Bool → VType → List Operand
extension_operands o vd vs2 unmasked t = group Write vd (group_type t) ∷ extension_source o vs2 t ∷ v0 unmasked

-- the fields of a unit-stride or strided access, whose elements have the width that the instruction encodes
abbrev pub access_operands : Role → Eew → ℕ → ℕ → Bool → VType → List Operand
access_operands role width nf vd unmasked t = field_groups role (nf + 1) vd (access_type t width) ∷ v0 unmasked

-- an indexed access; the instruction encodes the width of its indices
abbrev pub indexed_operands : Direction → Eew → ℕ → ℕ → ℕ → Bool → VType → List Operand
indexed_operands d width nf vd vs2 unmasked t =
    field_groups (indexed_role d nf) (nf + 1) vd (group_type t) ∷ group Read vs2 (access_type t width) ∷ v0 unmasked

-- the vector register operands under a vector type; none if the instruction needs a vector type and vill is set
unfoldable pub operands : Instr → Option VType → Option (List Operand)
operands (instr.Vector (Arith arith vd vs2 vm)) t = option_map (shape_operands (shape_of arith.0) vd vs2 arith.1 vm) t
operands (instr.Vector (Carry carry vd vs2)) t = option_map (shape_operands Single vd vs2 carry.1 false) t
operands (instr.Vector (Move from vd)) t = option_map (λ t. destination Single vd t ∷ second_source Single from t) t
operands (instr.Vector (WholeMove count vd vs2)) t = option_map (whole_move_operands count vd vs2) t
operands (instr.Vector (MaskLogic o vd vs1 vs2)) t = option_map (λ t. mask Write vd ∷ mask Read vs2 ∷ mask Read vs1 ∷ []) t
operands (instr.Vector (Compress vd vs1 vs2)) t = option_map (compress_operands vd vs1 vs2) t
operands (instr.Vector (MaskToScalar o rd vs2 vm)) t = option_map (λ t. mask Read vs2 ∷ v0 vm) t
operands (instr.Vector (Extend o vd vs2 vm)) t = option_map (extension_operands o vd vs2 vm) t
operands (instr.Vector (MaskUnary o vd vs2 vm)) t = option_map (λ t. mask_result o vd t ∷ mask Read vs2 ∷ v0 vm) t
operands (instr.Vector (ElementIndex vd vm)) t = option_map (λ t. group Write vd (group_type t) ∷ v0 vm) t
operands (instr.Vector (MoveToScalar rd vs2)) t = option_map (λ t. group Read vs2 (single_type (sew_width t.sew)) ∷ []) t
operands (instr.Vector (MoveToVector vd rs1)) t = option_map (λ t. group Write vd (single_type (sew_width t.sew)) ∷ []) t
operands (instr.Access (UnitStride o w nf vd rs1 vm)) t = option_map (access_operands (unit_role o) w nf vd vm) t
operands (instr.Access (Strided d w nf vd rs1 rs2 vm)) t = option_map (access_operands (data_role d) w nf vd vm) t
operands (instr.Access (Indexed d o w nf vd rs1 vs2 vm)) t = option_map (indexed_operands d w nf vd vs2 vm) t
operands (instr.Access (WholeLoad count w vd rs1)) t = Some (group Write vd (registers_type (sew_width (element_width w)) count) ∷ [])
operands (instr.Access (WholeStore count vd rs1)) t = Some (group Read vd (registers_type w8 count) ∷ [])
operands (instr.Access (MaskAccess d vd rs1)) t = option_map (λ t. mask (data_role d) vd ∷ []) t
-- scalar instructions, those of control registers, and those that set the vector type have no vector register operands
operands _ t = Some []

-- ---- further requirements

-- reductions
abbrev pub is_reduction : VectorOp → Bool
is_reduction (Reduce o) = true
is_reduction (WidenReduce o) = true
is_reduction _ = false

-- instructions that require a vstart of 0: reductions, counts, searches and scans of masks, and compressions
abbrev pub starts_at_zero : Instr → Bool
starts_at_zero (instr.Vector (Arith arith vd vs2 vm)) = is_reduction arith.0
starts_at_zero (instr.Vector (Compress vd vs1 vs2)) = true
starts_at_zero (instr.Vector (MaskToScalar o rd vs2 vm)) = true
starts_at_zero (instr.Vector (MaskUnary o vd vs2 vm)) = true
starts_at_zero _ = false

-- operations that exist only for SEW below 64: for 64-bit elements, Zve64x has no upper halves of products, and no fractional products
-- (section 18.2)
abbrev pub is_narrow_only : VectorOp → Bool
is_narrow_only (Binary Vmulhu) = true
is_narrow_only (Binary Vmulhsu) = true
is_narrow_only (Binary Vmulh) = true
is_narrow_only (FixedPoint Vsmul) = true
is_narrow_only _ = false

-- instructions that exist only for SEW below 64
abbrev pub is_below_64 : Instr → Bool
is_below_64 (instr.Vector (Arith arith vd vs2 vm)) = is_narrow_only arith.0
is_below_64 _ = false

-- ---- legality

-- a legal instruction has a vector type if it needs one, its operands may be combined, vstart is 0 if it must be, and SEW isn't 64 if it
-- must not be; `is_legal` tests the same
pub record IsLegal (i : Instr) (t : Option VType) (vstart : ℕ) : Type 0 where
  pub operands : IsSomeAnd (operands i t) AreLegal
  pub start : starts_at_zero i ≡ true → vstart ≡ 0
  pub width : is_below_64 i ≡ true → IsSomeAnd t (λ t. sew_bits t.sew ≢ 64)

-- the test of `IsLegal`; a law proves that they agree
unfoldable pub is_legal : Instr → Option VType → ℕ → Bool
is_legal i t vstart =
    option_map_or are_legal (operands i t) false
    && ((not (starts_at_zero i) || (vstart == 0))
    && (not (is_below_64 i) || option_map_or (λ t. not (sew_bits t.sew == 64)) t false))

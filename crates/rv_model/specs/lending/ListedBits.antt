-- The fixed bits and the table rows of each type of operation, for the functions of the decoder and the encoder, and bounds on the fields
-- of an instruction, which the encoder needs.
use Rattle.std.specs.Prelude.{ℕ, ◌+◌, ◌*◌, ◌^◌, ◌≡◌, ◌<◌, List, [], ◌∷◌, true}
use Rattle.rv_model.specs.instructions.FixedBits.{Part, vector_coded, width_bits, direction_bits, unit_bits, order_bits, one_less, count_bits, upper_entry, branch_entry, load_entry, store_entry, immediate_entry, shift_immediate_entry, shift_immediate_word_entry, register_entry, system_entry, csr_entry, csr_immediate_entry, mask_logic_entry, mask_to_scalar_entry, extend_entry, mask_unary_entry}
use Rattle.rv_model.specs.instructions.Operations.{form_of, has_form, line, carry_line, major_bits}
use Rattle.rv_model.specs.instructions.Types.{Form, Forms, Major, RegisterCount, Direction, Order, UnitOp, Eew, BinaryOp, BranchOp, CarryOutOp, ClipOp, CompareOp, CsrImmediateOp, CsrOp, ExtendOp, FixedPointOp, ImmediateOp, Line, LoadOp, MaskLogicOp, MaskToScalarOp, MaskUnaryOp, MultiplyAddOp, NarrowShiftOp, PermuteOp, ReduceOp, RegisterOp, ShiftImmediateOp, ShiftImmediateWordOp, StoreOp, SystemOp, UpperOp, WideSourceOp, WidenMultiplyAddOp, WidenOp, WidenReduceOp}
use Rattle.rv_model.specs.instructions.Variants.{Instr, Arith, Carry}
use Rattle.rv_model.specs.declared.instructions.instruction.Instr.TheVariants as instr
use Rattle.rv_model.specs.declared.instructions.operations.VectorOp.TheVariants as vector_op
use Rattle.rv_model.specs.declared.instructions.operations.Major.TheVariants.{Opi}

abbrev pub upper_bits : UpperOp → ℕ
upper_bits op = (upper_entry op).1

abbrev pub branch_bits : BranchOp → ℕ
branch_bits op = (branch_entry op).1

abbrev pub load_bits : LoadOp → ℕ
load_bits op = (load_entry op).1

abbrev pub store_bits : StoreOp → ℕ
store_bits op = (store_entry op).1

abbrev pub immediate_op_bits : ImmediateOp → ℕ
immediate_op_bits op = (immediate_entry op).1

abbrev pub shift_immediate_bits : ShiftImmediateOp → ℕ
shift_immediate_bits op = (shift_immediate_entry op).1

abbrev pub shift_immediate_word_bits : ShiftImmediateWordOp → ℕ
shift_immediate_word_bits op = (shift_immediate_word_entry op).1

abbrev pub register_op_bits : RegisterOp → ℕ
register_op_bits op = (register_entry op).1

abbrev pub system_bits : SystemOp → ℕ
system_bits op = (system_entry op).1

abbrev pub csr_bits : CsrOp → ℕ
csr_bits op = (csr_entry op).1

abbrev pub csr_immediate_bits : CsrImmediateOp → ℕ
csr_immediate_bits op = (csr_immediate_entry op).1

abbrev pub mask_logic_bits : MaskLogicOp → ℕ
mask_logic_bits op = (mask_logic_entry op).1

abbrev pub mask_to_scalar_bits : MaskToScalarOp → ℕ
mask_to_scalar_bits op = (mask_to_scalar_entry op).1

abbrev pub extend_bits : ExtendOp → ℕ
extend_bits op = (extend_entry op).1

abbrev pub mask_unary_bits : MaskUnaryOp → ℕ
mask_unary_bits op = (mask_unary_entry op).1

-- a row in one half of the opcode map
abbrev pub line_at : Major → ℕ → Forms → Line
line_at major funct6 forms = record { major = major; funct6 = funct6; forms = forms }

abbrev pub binary_line : BinaryOp → Line
binary_line op = line (vector_op.Binary op)

abbrev pub carry_out_line : CarryOutOp → Line
carry_out_line op = line (vector_op.CarryOut op)

abbrev pub compare_line : CompareOp → Line
compare_line op = line (vector_op.Compare op)

abbrev pub fixed_point_line : FixedPointOp → Line
fixed_point_line op = line (vector_op.FixedPoint op)

abbrev pub narrow_shift_line : NarrowShiftOp → Line
narrow_shift_line op = line (vector_op.NarrowShift op)

abbrev pub clip_line : ClipOp → Line
clip_line op = line (vector_op.Clip op)

abbrev pub widen_line : WidenOp → Line
widen_line op = line (vector_op.Widen op)

abbrev pub wide_source_line : WideSourceOp → Line
wide_source_line op = line (vector_op.WideSource op)

abbrev pub multiply_add_line : MultiplyAddOp → Line
multiply_add_line op = line (vector_op.MultiplyAdd op)

abbrev pub widen_multiply_add_line : WidenMultiplyAddOp → Line
widen_multiply_add_line op = line (vector_op.WidenMultiplyAdd op)

abbrev pub reduce_line : ReduceOp → Line
reduce_line op = line (vector_op.Reduce op)

abbrev pub widen_reduce_line : WidenReduceOp → Line
widen_reduce_line op = line (vector_op.WidenReduce op)

abbrev pub permute_line : PermuteOp → Line
permute_line op = line (vector_op.Permute op)

-- vmv.v.v, vmv.v.x, vmv.v.i
abbrev pub move_bits : Form → ℕ
move_bits f = 0x17 * 2 ^ 26 + 2 ^ 25 + major_bits Opi f

-- vmv1r.v, vmv2r.v, vmv4r.v, vmv8r.v
abbrev pub whole_move_bits : RegisterCount → ℕ
whole_move_bits count = vector_coded 3 0x27 1 (one_less count)

-- unit stride, with its width
abbrev pub unit_access_bits : UnitOp × Eew → ℕ
unit_access_bits access = unit_bits access.0 + width_bits access.1

-- strided, with its width
abbrev pub strided_access_bits : Direction × Eew → ℕ
strided_access_bits access = direction_bits access.0 + 2 * 2 ^ 26 + width_bits access.1

-- indexed, with the index's width
abbrev pub indexed_access_bits : (Direction × Order) × Eew → ℕ
indexed_access_bits access = direction_bits access.0.0 + order_bits access.0.1 + width_bits access.1

-- a load of whole registers, with its width
abbrev pub whole_load_bits : RegisterCount × Eew → ℕ
whole_load_bits access = 0x07 + count_bits access.0 + width_bits access.1

-- a store of whole registers
abbrev pub whole_store_bits : RegisterCount → ℕ
whole_store_bits count = 0x27 + count_bits count

-- vlm.v, vsm.v: 01011 at lumop or sumop, bit 25 set
abbrev pub mask_memory_bits : Direction → ℕ
mask_memory_bits direction = direction_bits direction + 11 * 2 ^ 20 + 2 ^ 25

-- each value fits the length of its field
abbrev pub AllFit : List Part → Type 0
AllFit [] = Unit {0}
AllFit (p ∷ ps) = (p.value < 2 ^ p.len) × AllFit ps

-- the table has a row for the pair of the operation and its form of source; other instructions have no such pair
abbrev pub Allowed : Instr → Type 0
Allowed (instr.Vector (Arith arith vd vs2 vm)) = has_form (line arith.0).forms (form_of arith.1) ≡ true
Allowed (instr.Vector (Carry carry vd vs2)) = has_form (carry_line carry.0).forms (form_of carry.1) ≡ true
Allowed _ = Unit {0}

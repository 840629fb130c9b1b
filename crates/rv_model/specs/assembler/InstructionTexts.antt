-- The text of each instruction: its name, and the slots that follow the name, in order. The name is that of the operation, which
-- `FixedBits` and `Operations` list with its bits, and a suffix for the form of the operands. Each slot includes its place in the word.
-- (Unprivileged ISA, "RISC-V Assembly Programmer's Handbook", "RV32/64G Instruction Set Listings", and the sections cited at each layout; V
-- extension, "Vector Instruction Listing", and the sections cited at each layout.)
use Rattle.std.specs.Prelude.{ℕ, ◌+◌, ◌==◌, Bool, List, [], ◌∷◌, ◌++◌, codes, if◌then◌else◌, true, false}
use Rattle.rv_model.specs.instructions.Types.{VectorOp, Form, Eew, UnitOp, Direction, Order}
use Rattle.rv_model.specs.instructions.Variants.{Instr, Upper, Jump, JumpRegister, Branch, Load, Store, RegisterImmediate, ShiftImmediate, ShiftImmediateWord, RegisterRegister, Fence, System, Register, Immediate, SetVli, SetIvli, SetVl, Arith, Carry, Move, WholeMove, MaskLogic, Compress, MaskToScalar, Extend, MaskUnary, ElementIndex, MoveToScalar, MoveToVector, UnitStride, Strided, Indexed, WholeLoad, WholeStore, MaskAccess}
use Rattle.rv_model.specs.declared.instructions.operations.VectorOp.TheVariants as vector_op
use Rattle.rv_model.specs.declared.instructions.operations.Form.TheVariants as form
use Rattle.rv_model.specs.declared.instructions.operations.Eew.TheVariants as width
use Rattle.rv_model.specs.declared.instructions.operations.UnitOp.TheVariants as unit
use Rattle.rv_model.specs.declared.instructions.operations.Direction.TheVariants as direction
use Rattle.rv_model.specs.declared.instructions.operations.Order.TheVariants as order
use Rattle.rv_model.specs.declared.instructions.instruction.Instr.TheVariants as instr
use Rattle.rv_model.specs.instructions.FixedBits.{upper_entry, branch_entry, load_entry, store_entry, immediate_entry, shift_immediate_entry, shift_immediate_word_entry, register_entry, system_entry, csr_entry, csr_immediate_entry, mask_logic_entry, mask_to_scalar_entry, extend_entry, mask_unary_entry}
use Rattle.rv_model.specs.instructions.Operations.{carry_entry, vector_entry, form_of}
use Rattle.rv_model.specs.assembler.Numbers.{hex_digit}
use Rattle.rv_model.specs.vector.Groups.{register_count}
use Rattle.rv_model.specs.declared.assembler.forms.Place.TheVariants.{Rd, Rs1, Rs2}
use Rattle.rv_model.specs.declared.assembler.forms.UnsignedField.TheVariants as unsigned
use Rattle.rv_model.specs.declared.assembler.forms.SignedField.TheVariants as signed
use Rattle.rv_model.specs.declared.assembler.forms.Slot.{Slot}
use Rattle.rv_model.specs.declared.assembler.forms.Slot.TheVariants as slot
use Rattle.rv_model.specs.declared.assembler.forms.Slot.TheVariants.{Comma, Open, Close, V0, Scalar, Vector, Unsigned, Signed, Mask}
use Rattle.rv_model.specs.elements.Formulas.{has_unsigned_immediate}
use Rattle.rv_model.specs.elements.FixedPoint.{has_unsigned_shift}

-- ---- suffixes of the names of vector operations (V extension, "Vector Arithmetic Instruction encoding")

-- the letter for the source of the last operand: a vector register, a scalar register or an immediate
abbrev pub source_letter : Form → List ℕ
source_letter form.V = codes "v"
source_letter form.X = codes "x"
source_letter form.I = codes "i"

-- the suffix of an operation with a row of its own: `.vv` and the like, with `m` for a carry or borrow input; `.wv` and the like if the
-- first source has twice the width; `.vs` for reductions
abbrev pub vector_suffix : VectorOp → Form → Bool → List ℕ
vector_suffix (vector_op.CarryOut op) f vm = codes ".v" ++ source_letter f ++ (if vm then [] else codes "m")
vector_suffix (vector_op.NarrowShift op) f vm = codes ".w" ++ source_letter f
vector_suffix (vector_op.Clip op) f vm = codes ".w" ++ source_letter f
vector_suffix (vector_op.WideSource op) f vm = codes ".w" ++ source_letter f
vector_suffix (vector_op.Reduce op) f vm = codes ".vs"
vector_suffix (vector_op.WidenReduce op) f vm = codes ".vs"
vector_suffix _ f vm = codes ".v" ++ source_letter f

-- ---- the names of vector loads and stores (V extension, "Vector Loads and Stores")

-- the width of an element or an index, in bits
abbrev pub width_digits : Eew → List ℕ
width_digits width.E8 = codes "8"
width_digits width.E16 = codes "16"
width_digits width.E32 = codes "32"
width_digits width.E64 = codes "64"

-- the prefix of a load or a store
abbrev pub direction_letters : Direction → List ℕ
direction_letters direction.Load = codes "vl"
direction_letters direction.Store = codes "vs"

-- the letters of an indexed access, unordered or ordered
abbrev pub order_letters : Order → List ℕ
order_letters order.Unordered = codes "ux"
order_letters order.Ordered = codes "ox"

-- empty for one field, `seg` and the number of fields for 2 to 8 fields; nf is the number of fields less 1
abbrev pub segment_text : ℕ → List ℕ
segment_text nf = if nf == 0 then [] else codes "seg" ++ hex_digit (nf + 1) ∷ []

-- the name of a unit-stride access; `ff` marks loads where only the first element may fault
abbrev pub unit_name : UnitOp → ℕ → Eew → List ℕ
unit_name unit.Load nf w = codes "vl" ++ segment_text nf ++ codes "e" ++ width_digits w ++ codes ".v"
unit_name unit.FaultOnlyFirst nf w = codes "vl" ++ segment_text nf ++ codes "e" ++ width_digits w ++ codes "ff.v"
unit_name unit.Store nf w = codes "vs" ++ segment_text nf ++ codes "e" ++ width_digits w ++ codes ".v"

-- ---- the slots of vector operations with a row in "Vector Instruction Listing"

-- vs1, rs1, or an immediate, uimm or simm5 ("Vector Arithmetic Instruction encoding")
abbrev pub second : Bool → Form → Slot
second is_unsigned form.V = Vector Rs1
second is_unsigned form.X = Scalar Rs1
second true form.I = Unsigned unsigned.Immediate
second false form.I = Signed signed.Vector

-- `vd, vs2, vs1, vm`, `vd, vs2, rs1, vm` or `vd, vs2, imm, vm` ("Vector Arithmetic Instruction encoding")
abbrev pub usual_slots : Bool → Form → List Slot
usual_slots is_unsigned f = Vector Rd ∷ Comma ∷ Vector Rs2 ∷ Comma ∷ second is_unsigned f ∷ Mask ∷ []

-- `vd, vs1, vs2, vm` or `vd, rs1, vs2, vm`: the order of multiply-adds, with vs1 or rs1 before vs2 ("Vector Arithmetic Instruction
-- encoding")
abbrev pub multiply_add_slots : Form → List Slot
multiply_add_slots f = Vector Rd ∷ Comma ∷ second false f ∷ Comma ∷ Vector Rs2 ∷ Mask ∷ []

-- `vd, vs2, vs1, v0` and the like ("Vector Integer Add-with-Carry / Subtract-with-Borrow Instructions")
abbrev pub carry_slots : Form → List Slot
carry_slots f = Vector Rd ∷ Comma ∷ Vector Rs2 ∷ Comma ∷ second false f ∷ Comma ∷ V0 ∷ []

-- the same, without v0 if vm is set and there is no carry or borrow input
abbrev pub carry_out_slots : Bool → Form → List Slot
carry_out_slots true f = Vector Rd ∷ Comma ∷ Vector Rs2 ∷ Comma ∷ second false f ∷ []
carry_out_slots false f = carry_slots f

-- the slots of an operation, by whether its immediate is unsigned and whether it is a multiply-add
abbrev pub arith_slots : VectorOp → Form → Bool → List Slot
-- "Vector Integer Arithmetic Instructions"; the amount of a shift is unsigned, "Vector Single-Width Shift Instructions"
arith_slots (vector_op.Binary op) f vm = usual_slots (has_unsigned_immediate op) f
-- "Vector Integer Add-with-Carry / Subtract-with-Borrow Instructions"
arith_slots (vector_op.CarryOut op) f vm = carry_out_slots vm f
-- "Vector Fixed-Point Arithmetic Instructions"
arith_slots (vector_op.FixedPoint op) f vm = usual_slots (has_unsigned_shift op) f
-- "Vector Narrowing Integer Right Shift Instructions", "Vector Narrowing Fixed-Point Clip Instructions"
arith_slots (vector_op.NarrowShift op) f vm = usual_slots true f
arith_slots (vector_op.Clip op) f vm = usual_slots true f
-- "Vector Single-Width Integer Multiply-Add Instructions", "Vector Widening Integer Multiply-Add Instructions"
arith_slots (vector_op.MultiplyAdd op) f vm = multiply_add_slots f
arith_slots (vector_op.WidenMultiplyAdd op) f vm = multiply_add_slots f
-- "Vector Slide Instructions", "Vector Register Gather Instructions": offsets and indices are unsigned
arith_slots (vector_op.Permute op) f vm = usual_slots true f
-- comparisons, reductions and other widening operations
arith_slots _ f vm = usual_slots false f

-- ---- the name and the slots of every instruction, one equation for each layout

-- `(rs1)`: the base address of an access to memory
abbrev pub base : List Slot
base = Open ∷ Scalar Rs1 ∷ Close ∷ []

abbrev pub spelt : Instr → List ℕ × List Slot
-- `lui rd, imm`: RV32I, "Integer Register-Immediate Instructions"
spelt (instr.Scalar (Upper op rd imm)) = ((upper_entry op).0, Scalar Rd ∷ Comma ∷ Unsigned unsigned.Upper ∷ [])
-- `jal rd, offset`: RV32I, "Unconditional Jumps"; offset is the 21-bit distance from the instruction, with lowest bit 0
spelt (instr.Scalar (Jump rd imm)) = (codes "jal", Scalar Rd ∷ Comma ∷ Signed signed.Jump ∷ [])
-- `jalr rd, offset(rs1)`: RV32I, "Unconditional Jumps"
spelt (instr.Scalar (JumpRegister rd rs1 imm)) = (codes "jalr", Scalar Rd ∷ Comma ∷ Signed signed.Immediate ∷ base)
-- `beq rs1, rs2, offset`: RV32I, "Conditional Branches"; offset is the 13-bit distance from the instruction, with lowest bit 0
spelt (instr.Scalar (Branch op rs1 rs2 imm)) = ((branch_entry op).0, Scalar Rs1 ∷ Comma ∷ Scalar Rs2 ∷ Comma ∷ Signed signed.Branch ∷ [])
-- `ld rd, offset(rs1)`: RV32I and RV64I, "Load and Store Instructions"
spelt (instr.Scalar (Load op rd rs1 imm)) = ((load_entry op).0, Scalar Rd ∷ Comma ∷ Signed signed.Immediate ∷ base)
-- `sd rs2, offset(rs1)`: RV32I and RV64I, "Load and Store Instructions"
spelt (instr.Scalar (Store op rs1 rs2 imm)) = ((store_entry op).0, Scalar Rs2 ∷ Comma ∷ Signed signed.Store ∷ base)
-- `addi rd, rs1, imm`: RV32I and RV64I, "Integer Register-Immediate Instructions"
spelt (instr.Scalar (RegisterImmediate op rd rs1 imm)) =
    ((immediate_entry op).0, Scalar Rd ∷ Comma ∷ Scalar Rs1 ∷ Comma ∷ Signed signed.Immediate ∷ [])
-- `slli rd, rs1, shamt`: RV64I, "Integer Register-Immediate Instructions"
spelt (instr.Scalar (ShiftImmediate op rd rs1 shamt)) =
    ((shift_immediate_entry op).0, Scalar Rd ∷ Comma ∷ Scalar Rs1 ∷ Comma ∷ Unsigned unsigned.Shift ∷ [])
-- `slliw rd, rs1, shamt`: RV64I, "Integer Register-Immediate Instructions"
spelt (instr.Scalar (ShiftImmediateWord op rd rs1 shamt)) =
    ((shift_immediate_word_entry op).0, Scalar Rd ∷ Comma ∷ Scalar Rs1 ∷ Comma ∷ Unsigned unsigned.ShiftWord ∷ [])
-- `add rd, rs1, rs2`: RV32I and RV64I, "Integer Register-Register Operations"; M
spelt (instr.Scalar (RegisterRegister op rd rs1 rs2)) = ((register_entry op).0, Scalar Rd ∷ Comma ∷ Scalar Rs1 ∷ Comma ∷ Scalar Rs2 ∷ [])
-- `fence` without operands: RV32I, "Memory Ordering Instructions"
spelt (instr.Scalar (Fence rd rs1 ordering)) = (codes "fence", [])
-- `ecall`: RV32I, "Environment Call and Breakpoints"
spelt (instr.Scalar (System op)) = ((system_entry op).0, [])
-- `csrrw rd, csr, rs1`: Zicsr, "CSR Instructions"
spelt (instr.Csr (Register op rd rs1 csr)) = ((csr_entry op).0, Scalar Rd ∷ Comma ∷ slot.Csr ∷ Comma ∷ Scalar Rs1 ∷ [])
-- `csrrwi rd, csr, uimm`: Zicsr, "CSR Instructions"
spelt (instr.Csr (Immediate op rd imm csr)) =
    ((csr_immediate_entry op).0, Scalar Rd ∷ Comma ∷ slot.Csr ∷ Comma ∷ Unsigned unsigned.Immediate ∷ [])
-- `vsetvli rd, rs1, vtypei`: V, "Configuration-Setting Instructions"
spelt (instr.Vector (SetVli rd rs1 vtype)) = (codes "vsetvli", Scalar Rd ∷ Comma ∷ Scalar Rs1 ∷ Comma ∷ slot.VectorType ∷ [])
-- `vsetivli rd, uimm, vtypei`: V, "Configuration-Setting Instructions"
spelt (instr.Vector (SetIvli rd avl vtype)) =
    (codes "vsetivli", Scalar Rd ∷ Comma ∷ Unsigned unsigned.Immediate ∷ Comma ∷ slot.ShortVectorType ∷ [])
-- `vsetvl rd, rs1, rs2`: V, "Configuration-Setting Instructions"
spelt (instr.Vector (SetVl rd rs1 rs2)) = (codes "vsetvl", Scalar Rd ∷ Comma ∷ Scalar Rs1 ∷ Comma ∷ Scalar Rs2 ∷ [])
-- `vadd.vv vd, vs2, vs1, vm` and the like: the suffix and the slots depend on the operation, above
spelt (instr.Vector (Arith arith vd vs2 vm)) =
    ((vector_entry arith.0).0 ++ vector_suffix arith.0 (form_of arith.1) vm, arith_slots arith.0 (form_of arith.1) vm)
-- `vadc.vvm vd, vs2, vs1, v0`: V, "Vector Integer Add-with-Carry / Subtract-with-Borrow Instructions", "Vector Integer
-- Merge Instructions"
spelt (instr.Vector (Carry carry vd vs2)) =
    ((carry_entry carry.0).0 ++ codes ".v" ++ source_letter (form_of carry.1) ++ codes "m", carry_slots (form_of carry.1))
-- `vmv.v.v vd, vs1`: V, "Vector Integer Move Instructions"
spelt (instr.Vector (Move source vd)) =
    (codes "vmv.v." ++ source_letter (form_of source), Vector Rd ∷ Comma ∷ second false (form_of source) ∷ [])
-- `vmv1r.v vd, vs2`: V, "Whole Vector Register Move"
spelt (instr.Vector (WholeMove count vd vs2)) =
    (codes "vmv" ++ hex_digit (register_count count) ∷ codes "r.v", Vector Rd ∷ Comma ∷ Vector Rs2 ∷ [])
-- `vmand.mm vd, vs2, vs1`: V, "Vector Mask-Register Logical Instructions"
spelt (instr.Vector (MaskLogic op vd vs1 vs2)) = ((mask_logic_entry op).0, Vector Rd ∷ Comma ∷ Vector Rs2 ∷ Comma ∷ Vector Rs1 ∷ [])
-- `vcompress.vm vd, vs2, vs1`: V, "Vector Compress Instruction"
spelt (instr.Vector (Compress vd vs1 vs2)) = (codes "vcompress.vm", Vector Rd ∷ Comma ∷ Vector Rs2 ∷ Comma ∷ Vector Rs1 ∷ [])
-- `vcpop.m rd, vs2, vm`: V, "Vector count population in mask vcpop.m", "vfirst find-first-set mask bit"
spelt (instr.Vector (MaskToScalar op rd vs2 vm)) = ((mask_to_scalar_entry op).0, Scalar Rd ∷ Comma ∷ Vector Rs2 ∷ Mask ∷ [])
-- `vzext.vf2 vd, vs2, vm`: V, "Vector Integer Extension"
spelt (instr.Vector (Extend op vd vs2 vm)) = ((extend_entry op).0, Vector Rd ∷ Comma ∷ Vector Rs2 ∷ Mask ∷ [])
-- `vmsbf.m vd, vs2, vm`: V, "vmsbf.m set-before-first mask bit" and the like, "Vector Iota Instruction"
spelt (instr.Vector (MaskUnary op vd vs2 vm)) = ((mask_unary_entry op).0, Vector Rd ∷ Comma ∷ Vector Rs2 ∷ Mask ∷ [])
-- `vid.v vd, vm`: V, "Vector Element Index Instruction"
spelt (instr.Vector (ElementIndex vd vm)) = (codes "vid.v", Vector Rd ∷ Mask ∷ [])
-- `vmv.x.s rd, vs2`: V, "Integer Scalar Move Instructions"
spelt (instr.Vector (MoveToScalar rd vs2)) = (codes "vmv.x.s", Scalar Rd ∷ Comma ∷ Vector Rs2 ∷ [])
-- `vmv.s.x vd, rs1`: V, "Integer Scalar Move Instructions"
spelt (instr.Vector (MoveToVector vd rs1)) = (codes "vmv.s.x", Vector Rd ∷ Comma ∷ Scalar Rs1 ∷ [])
-- `vle8.v vd, (rs1), vm`: V, "Vector Unit-Stride Instructions", "Unit-stride Fault-Only-First Loads", "Unit-Stride
-- Segment Loads and Stores"
spelt (instr.Access (UnitStride op width nf vd rs1 vm)) = (unit_name op nf width, Vector Rd ∷ Comma ∷ base ++ Mask ∷ [])
-- `vlse8.v vd, (rs1), rs2, vm`: V, "Vector Strided Instructions", "Vector Strided Segment Loads and Stores"
spelt (instr.Access (Strided direction width nf vd rs1 rs2 vm)) = (
  direction_letters direction ++ codes "s" ++ segment_text nf ++ codes "e" ++ width_digits width ++ codes ".v",
  Vector Rd ∷ Comma ∷ base ++ Comma ∷ Scalar Rs2 ∷ Mask ∷ [],
)
-- `vluxei8.v vd, (rs1), vs2, vm`: V, "Vector Indexed Instructions", "Vector Indexed Segment Loads and Stores"
spelt (instr.Access (Indexed direction order width nf vd rs1 vs2 vm)) = (
  direction_letters direction ++ order_letters order ++ segment_text nf ++ codes "ei" ++ width_digits width ++ codes ".v",
  Vector Rd ∷ Comma ∷ base ++ Comma ∷ Vector Rs2 ∷ Mask ∷ [],
)
-- `vl1re8.v vd, (rs1)`: V, "Vector Load/Store Whole Register Instructions"
spelt (instr.Access (WholeLoad count width vd rs1)) =
    (codes "vl" ++ hex_digit (register_count count) ∷ codes "re" ++ width_digits width ++ codes ".v", Vector Rd ∷ Comma ∷ base)
-- `vs1r.v vs3, (rs1)`: V, "Vector Load/Store Whole Register Instructions"
spelt (instr.Access (WholeStore count vd rs1)) = (codes "vs" ++ hex_digit (register_count count) ∷ codes "r.v", Vector Rd ∷ Comma ∷ base)
-- `vlm.v vd, (rs1)`: V, "Vector Unit-Stride Instructions"
spelt (instr.Access (MaskAccess direction vd rs1)) = (direction_letters direction ++ codes "m.v", Vector Rd ∷ Comma ∷ base)

-- the name of an instruction, which doesn't depend on its registers and numbers
abbrev pub mnemonic : Instr → List ℕ
mnemonic i = (spelt i).0

-- the slots of an instruction's text
abbrev pub slots : Instr → List Slot
slots i = (spelt i).1

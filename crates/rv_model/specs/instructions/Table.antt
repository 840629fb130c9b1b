-- The layout of each instruction's word: the bits of its operands, and the bits that its operation fixes (Unprivileged ISA, "Base
-- Instruction Formats"; V extension, "Vector Instruction Formats"). The instruction table has a row for each operation of the manual's
-- tables, in their order, with its fixed bits and the instruction of each matching word.
use Rattle.std.specs.Prelude.{ℕ, ◌+◌, ◌*◌, ◌/◌, ◌%◌, ◌^◌, List, [], ◌∷◌, ◌≡◌, ◌++◌, Contains, filter, flat_map, map, Option, Some, None, nat_eq, bit_and, if◌then◌else◌}
use Rattle.rv_model.specs.instructions.FixedBits.{flag_bit, Part, part, sum_of, coded, vector_coded, width_bits, direction_bits, unit_bits, order_bits, one_less, count_bits, upper_entry, branch_entry, load_entry, store_entry, immediate_entry, shift_immediate_entry, shift_immediate_word_entry, register_entry, system_entry, csr_entry, csr_immediate_entry, mask_logic_entry, mask_to_scalar_entry, extend_entry, mask_unary_entry, field, flag, fixed}
use Rattle.rv_model.specs.instructions.Operations.{form_of, source_number, line, carry_line, line_bits, major_bits, source_of, has_form, vector_ops}
use Rattle.rv_model.specs.declared.instructions.operations.Major.TheVariants.{Opi}
use Rattle.rv_model.specs.instructions.Variants.{Instr, Upper, Jump, JumpRegister, Branch, Load, Store, RegisterImmediate, ShiftImmediate, ShiftImmediateWord, RegisterRegister, Fence, System, Register, Immediate, SetVli, SetIvli, SetVl, Arith, Carry, Move, WholeMove, MaskLogic, Compress, MaskToScalar, Extend, MaskUnary, ElementIndex, MoveToScalar, MoveToVector, UnitStride, Strided, Indexed, WholeLoad, WholeStore, MaskAccess}
use Rattle.rv_model.specs.declared.instructions.instruction.Instr.TheVariants as instr
use Rattle.rv_model.specs.instructions.Immediates.{store_immediate, branch_offset, jump_offset}
use Rattle.rv_model.specs.instructions.Types.{Direction, Eew, Form, RegisterCount}
use Rattle.rv_model.specs.declared.instructions.operations.UpperOp.TheVariants.{Lui, Auipc}
use Rattle.rv_model.specs.declared.instructions.operations.BranchOp.TheVariants.{Beq, Bne, Blt, Bge, Bltu, Bgeu}
use Rattle.rv_model.specs.declared.instructions.operations.LoadOp.TheVariants.{Lb, Lh, Lw, Ld, Lbu, Lhu, Lwu}
use Rattle.rv_model.specs.declared.instructions.operations.StoreOp.TheVariants.{Sb, Sh, Sw, Sd}
use Rattle.rv_model.specs.declared.instructions.operations.ImmediateOp.TheVariants.{Addi, Slti, Sltiu, Xori, Ori, Andi, Addiw}
use Rattle.rv_model.specs.declared.instructions.operations.ShiftImmediateOp.TheVariants.{Slli, Srli, Srai}
use Rattle.rv_model.specs.declared.instructions.operations.ShiftImmediateWordOp.TheVariants.{Slliw, Srliw, Sraiw}
use Rattle.rv_model.specs.declared.instructions.operations.RegisterOp.TheVariants.{Add, Sub, Sll, Slt, Sltu, Xor, Srl, Sra, Or, And, Mul, Mulh, Mulhsu, Mulhu, Div, Divu, Rem, Remu, Addw, Subw, Sllw, Srlw, Sraw, Mulw, Divw, Divuw, Remw, Remuw}
use Rattle.rv_model.specs.declared.instructions.operations.SystemOp.TheVariants.{Ecall, Ebreak}
use Rattle.rv_model.specs.declared.instructions.operations.CsrOp.TheVariants.{Csrrw, Csrrs, Csrrc}
use Rattle.rv_model.specs.declared.instructions.operations.CsrImmediateOp.TheVariants.{Csrrwi, Csrrsi, Csrrci}
use Rattle.rv_model.specs.declared.instructions.operations.CarryOp.TheVariants.{Vadc, Vsbc, Vmerge}
use Rattle.rv_model.specs.declared.instructions.operations.MaskLogicOp.TheVariants.{Vmandn, Vmand, Vmor, Vmxor, Vmorn, Vmnand, Vmnor, Vmxnor}
use Rattle.rv_model.specs.declared.instructions.operations.MaskToScalarOp.TheVariants.{Vcpop, Vfirst}
use Rattle.rv_model.specs.declared.instructions.operations.ExtendOp.TheVariants.{VzextVf8, VsextVf8, VzextVf4, VsextVf4, VzextVf2, VsextVf2}
use Rattle.rv_model.specs.declared.instructions.operations.MaskScanOp.TheVariants.{Vmsbf, Vmsof, Vmsif}
use Rattle.rv_model.specs.declared.instructions.operations.MaskUnaryOp.TheVariants.{Scan, Viota}
use Rattle.rv_model.specs.declared.instructions.operations.RegisterCount.TheVariants.{One, Two, Four, Eight}
use Rattle.rv_model.specs.declared.instructions.operations.Eew.TheVariants.{E8, E16, E32, E64}
use Rattle.rv_model.specs.declared.instructions.operations.UnitOp.TheVariants as unit
use Rattle.rv_model.specs.declared.instructions.operations.Direction.TheVariants as direction
use Rattle.rv_model.specs.declared.instructions.operations.Order.TheVariants as order
use Rattle.rv_model.specs.declared.instructions.operations.Form.TheVariants as form

-- the contents of a word: the bits that its operation fixes, and its operands with their positions, from the high bits to the low
abbrev pub word_with : ℕ → List Part → ℕ × List Part
word_with bits parts = (bits, parts)

-- R-type: three registers
abbrev pub r_type : ℕ → ℕ → ℕ → ℕ → ℕ × List Part
r_type bits rd rs1 rs2 = word_with bits (part 20 5 rs2 ∷ part 15 5 rs1 ∷ part 7 5 rd ∷ [])

-- I-type: two registers, and 12 bits
abbrev pub i_type : ℕ → ℕ → ℕ → ℕ → ℕ × List Part
i_type bits rd rs1 imm = word_with bits (part 20 12 imm ∷ part 15 5 rs1 ∷ part 7 5 rd ∷ [])

-- the layout of each instruction's word
abbrev pub layout : Instr → ℕ × List Part
layout (instr.Scalar (Upper op rd imm)) = word_with (upper_entry op).1 (part 12 20 imm ∷ part 7 5 rd ∷ [])
layout (instr.Scalar (Jump rd imm)) = word_with 0x6f  -- jal
    (part 31 1 (imm / 2 ^ 19) ∷ part 21 10 (imm % 2 ^ 10) ∷ part 20 1 (imm / 2 ^ 10 % 2 ^ 1) ∷
    part 12 8 (imm / 2 ^ 11 % 2 ^ 8) ∷ part 7 5 rd ∷ [])
layout (instr.Scalar (JumpRegister rd rs1 imm)) = i_type (coded 0x67 0) rd rs1 imm  -- jalr
layout (instr.Scalar (Branch op rs1 rs2 imm)) = word_with (branch_entry op).1
    (part 31 1 (imm / 2 ^ 11) ∷ part 25 6 (imm / 2 ^ 4 % 2 ^ 6) ∷ part 20 5 rs2 ∷ part 15 5 rs1 ∷ part 8 4 (imm % 2 ^ 4) ∷
    part 7 1 (imm / 2 ^ 10 % 2 ^ 1) ∷ [])
layout (instr.Scalar (Load op rd rs1 imm)) = i_type (load_entry op).1 rd rs1 imm
layout (instr.Scalar (Store op rs1 rs2 imm)) =
    word_with (store_entry op).1 (part 25 7 (imm / 2 ^ 5) ∷ part 20 5 rs2 ∷ part 15 5 rs1 ∷ part 7 5 (imm % 2 ^ 5) ∷ [])
layout (instr.Scalar (RegisterImmediate op rd rs1 imm)) = i_type (immediate_entry op).1 rd rs1 imm
layout (instr.Scalar (ShiftImmediate op rd rs1 shamt)) =
    word_with (shift_immediate_entry op).1 (part 20 6 shamt ∷ part 15 5 rs1 ∷ part 7 5 rd ∷ [])
layout (instr.Scalar (ShiftImmediateWord op rd rs1 shamt)) = r_type (shift_immediate_word_entry op).1 rd rs1 shamt
layout (instr.Scalar (RegisterRegister op rd rs1 rs2)) = r_type (register_entry op).1 rd rs1 rs2
layout (instr.Scalar (Fence rd rs1 ordering)) = i_type (coded 0x0f 0) rd rs1 ordering  -- fence
layout (instr.Scalar (System op)) = word_with (system_entry op).1 []
layout (instr.Csr (Register op rd rs1 csr)) = i_type (csr_entry op).1 rd rs1 csr
layout (instr.Csr (Immediate op rd imm csr)) = i_type (csr_immediate_entry op).1 rd imm csr
layout (instr.Vector (SetVli rd rs1 vtype)) = word_with (coded 0x57 7) (part 20 11 vtype ∷ part 15 5 rs1 ∷ part 7 5 rd ∷ [])  -- vsetvli
layout (instr.Vector (SetIvli rd avl vtype)) =
    word_with (coded 0x57 7 + 3 * 2 ^ 30) (part 20 10 vtype ∷ part 15 5 avl ∷ part 7 5 rd ∷ [])  -- vsetivli
layout (instr.Vector (SetVl rd rs1 rs2)) = r_type (coded 0x57 7 + 0x40 * 2 ^ 25) rd rs1 rs2  -- vsetvl
layout (instr.Vector (Arith arith vd vs2 vm)) = word_with (line_bits (line arith.0) (form_of arith.1))
    (part 25 1 (flag_bit vm) ∷ part 20 5 vs2 ∷ part 15 5 (source_number arith.1) ∷ part 7 5 vd ∷ [])
layout (instr.Vector (Carry carry vd vs2)) = word_with (line_bits (carry_line carry.0) (form_of carry.1))
    (part 20 5 vs2 ∷ part 15 5 (source_number carry.1) ∷ part 7 5 vd ∷ [])
layout (instr.Vector (Move source vd)) =  -- vmv.v.v, vmv.v.x, vmv.v.i
    word_with (0x17 * 2 ^ 26 + 2 ^ 25 + major_bits Opi (form_of source)) (part 15 5 (source_number source) ∷ part 7 5 vd ∷ [])
layout (instr.Vector (WholeMove count vd vs2)) =
    word_with (vector_coded 3 0x27 1 (one_less count)) (part 20 5 vs2 ∷ part 7 5 vd ∷ [])  -- vmv1r.v and the like
layout (instr.Vector (MaskLogic op vd vs1 vs2)) = r_type (mask_logic_entry op).1 vd vs1 vs2
layout (instr.Vector (Compress vd vs1 vs2)) = r_type (vector_coded 2 0x17 1 0) vd vs1 vs2  -- vcompress.vm
layout (instr.Vector (MaskToScalar op rd vs2 vm)) =
    word_with (mask_to_scalar_entry op).1 (part 25 1 (flag_bit vm) ∷ part 20 5 vs2 ∷ part 7 5 rd ∷ [])
layout (instr.Vector (Extend op vd vs2 vm)) = word_with (extend_entry op).1 (part 25 1 (flag_bit vm) ∷ part 20 5 vs2 ∷ part 7 5 vd ∷ [])
layout (instr.Vector (MaskUnary op vd vs2 vm)) =
    word_with (mask_unary_entry op).1 (part 25 1 (flag_bit vm) ∷ part 20 5 vs2 ∷ part 7 5 vd ∷ [])
layout (instr.Vector (ElementIndex vd vm)) = word_with (vector_coded 2 0x14 0 17) (part 25 1 (flag_bit vm) ∷ part 7 5 vd ∷ [])  -- vid.v
layout (instr.Vector (MoveToScalar rd vs2)) = word_with (vector_coded 2 0x10 1 0) (part 20 5 vs2 ∷ part 7 5 rd ∷ [])  -- vmv.x.s
layout (instr.Vector (MoveToVector vd rs1)) = word_with (vector_coded 6 0x10 1 0) (part 15 5 rs1 ∷ part 7 5 vd ∷ [])  -- vmv.s.x
layout (instr.Access (UnitStride op width nf vd rs1 vm)) =
    word_with (unit_bits op + width_bits width) (part 29 3 nf ∷ part 25 1 (flag_bit vm) ∷ part 15 5 rs1 ∷ part 7 5 vd ∷ [])
layout (instr.Access (Strided direction width nf vd rs1 rs2 vm)) = word_with
    (direction_bits direction + 2 * 2 ^ 26 + width_bits width)  -- vlse8.v, vsse8.v, vlsseg2e8.v, vssseg2e8.v and the like
    (part 29 3 nf ∷ part 25 1 (flag_bit vm) ∷ part 20 5 rs2 ∷ part 15 5 rs1 ∷ part 7 5 vd ∷ [])
layout (instr.Access (Indexed direction order width nf vd rs1 vs2 vm)) =
    word_with (direction_bits direction + order_bits order + width_bits width)
    (part 29 3 nf ∷ part 25 1 (flag_bit vm) ∷ part 20 5 vs2 ∷ part 15 5 rs1 ∷ part 7 5 vd ∷ [])
layout (instr.Access (WholeLoad count width vd rs1)) =
    word_with (0x07 + count_bits count + width_bits width) (part 15 5 rs1 ∷ part 7 5 vd ∷ [])
layout (instr.Access (WholeStore count vd rs1)) = word_with (0x27 + count_bits count) (part 15 5 rs1 ∷ part 7 5 vd ∷ [])
layout (instr.Access (MaskAccess direction vd rs1)) =
    word_with (direction_bits direction + 11 * 2 ^ 20 + 2 ^ 25) (part 15 5 rs1 ∷ part 7 5 vd ∷ [])  -- vlm.v, vsm.v

-- the operands of an instruction, with their positions
abbrev pub parts : Instr → List Part
parts i = (layout i).1

-- the bits that an instruction fixes
abbrev pub bits : Instr → ℕ
bits i = (layout i).0

-- the word of an instruction
abbrev pub word_of : Instr → ℕ
word_of i = sum_of (bits i) (parts i)

-- a row: the mask of the bits that it fixes, their values, and the instruction of a matching word
pub record Row : Type 0 where
  pub mask : ℕ
  pub bits : ℕ
  pub instr : ℕ → Instr

-- the row of the instructions that `make` builds from words; all of them fix the same bits, so word 0 determines the row
abbrev pub row : (ℕ → Instr) → Row
row make = record { mask = fixed (parts (make 0)); bits = bits (make 0); instr = make }

-- a row for each of these operations
abbrev pub rows_of : {A : Type 0} → List A → (A → ℕ → Instr) → List Row
rows_of ops make = map (λ op. row (make op)) ops

-- the rows for each item of a list
abbrev pub each : {A : Type 0} → List A → (A → List Row) → List Row
each xs rows = flat_map rows xs

-- the forms of the second operand of a vector operation
abbrev pub forms : List Form
forms = form.V ∷ form.X ∷ form.I ∷ []

-- the numbers of registers of whole-register instructions
abbrev pub counts : List RegisterCount
counts = One ∷ Two ∷ Four ∷ Eight ∷ []

-- loads and stores
abbrev pub directions : List Direction
directions = direction.Load ∷ direction.Store ∷ []

-- the widths of memory elements and of indices
abbrev pub widths : List Eew
widths = E8 ∷ E16 ∷ E32 ∷ E64 ∷ []

-- every row
unfoldable pub table : List Row
table =
    -- RV32I, "Integer Register-Immediate Instructions"
    rows_of (Lui ∷ Auipc ∷ []) (λ op w. instr.Scalar (Upper op (field 7 5 w) (field 12 20 w)))
    -- RV32I, "Unconditional Jumps"
    ++ row (λ w. instr.Scalar (Jump (field 7 5 w) (jump_offset w))) ∷ []
    ++ row (λ w. instr.Scalar (JumpRegister (field 7 5 w) (field 15 5 w) (field 20 12 w))) ∷ []
    -- RV32I, "Conditional Branches"
    ++ rows_of (Beq ∷ Bne ∷ Blt ∷ Bge ∷ Bltu ∷ Bgeu ∷ [])
    (λ op w. instr.Scalar (Branch op (field 15 5 w) (field 20 5 w) (branch_offset w)))
    -- RV32I and RV64I, "Load and Store Instructions"
    ++ rows_of (Lb ∷ Lh ∷ Lw ∷ Ld ∷ Lbu ∷ Lhu ∷ Lwu ∷ [])
    (λ op w. instr.Scalar (Load op (field 7 5 w) (field 15 5 w) (field 20 12 w)))
    ++ rows_of (Sb ∷ Sh ∷ Sw ∷ Sd ∷ []) (λ op w. instr.Scalar (Store op (field 15 5 w) (field 20 5 w) (store_immediate w)))
    -- RV32I and RV64I, "Integer Register-Immediate Instructions"
    ++ rows_of (Addi ∷ Slti ∷ Sltiu ∷ Xori ∷ Ori ∷ Andi ∷ Addiw ∷ [])
    (λ op w. instr.Scalar (RegisterImmediate op (field 7 5 w) (field 15 5 w) (field 20 12 w)))
    ++ rows_of (Slli ∷ Srli ∷ Srai ∷ []) (λ op w. instr.Scalar (ShiftImmediate op (field 7 5 w) (field 15 5 w) (field 20 6 w)))
    ++ rows_of (Slliw ∷ Srliw ∷ Sraiw ∷ []) (λ op w. instr.Scalar (ShiftImmediateWord op (field 7 5 w) (field 15 5 w) (field 20 5 w)))
    -- RV32I and RV64I, "Integer Register-Register Operations"; M, "Multiplication Operations", "Division Operations"
    ++ rows_of
    (Add ∷ Sub ∷ Sll ∷ Slt ∷ Sltu ∷ Xor ∷ Srl ∷ Sra ∷ Or ∷ And ∷ Mul ∷ Mulh ∷ Mulhsu ∷ Mulhu ∷ Div ∷ Divu ∷ Rem ∷ Remu ∷
    Addw ∷ Subw ∷ Sllw ∷ Srlw ∷ Sraw ∷ Mulw ∷ Divw ∷ Divuw ∷ Remw ∷ Remuw ∷ [])
    (λ op w. instr.Scalar (RegisterRegister op (field 7 5 w) (field 15 5 w) (field 20 5 w)))
    -- RV32I, "Memory Ordering Instructions"
    ++ row (λ w. instr.Scalar (Fence (field 7 5 w) (field 15 5 w) (field 20 12 w))) ∷ []
    -- RV32I, "Environment Call and Breakpoints"
    ++ rows_of (Ecall ∷ Ebreak ∷ []) (λ op w. instr.Scalar (System op))
    -- Zicsr, "CSR Instructions"
    ++ rows_of (Csrrw ∷ Csrrs ∷ Csrrc ∷ []) (λ op w. instr.Csr (Register op (field 7 5 w) (field 15 5 w) (field 20 12 w)))
    ++ rows_of (Csrrwi ∷ Csrrsi ∷ Csrrci ∷ []) (λ op w. instr.Csr (Immediate op (field 7 5 w) (field 15 5 w) (field 20 12 w)))
    -- V, "Configuration-Setting Instructions"
    ++ row (λ w. instr.Vector (SetVli (field 7 5 w) (field 15 5 w) (field 20 11 w))) ∷ []
    ++ row (λ w. instr.Vector (SetIvli (field 7 5 w) (field 15 5 w) (field 20 10 w))) ∷ []
    ++ row (λ w. instr.Vector (SetVl (field 7 5 w) (field 15 5 w) (field 20 5 w))) ∷ []
    -- V, the rows of "Vector Instruction Listing" that may be masked
    ++ each forms (λ f. rows_of (filter (λ op. has_form (line op).forms f) vector_ops)
    (λ op w. instr.Vector (Arith (op, source_of f (field 15 5 w)) (field 7 5 w) (field 20 5 w) (flag w))))
    -- V, "Vector Integer Add-with-Carry / Subtract-with-Borrow Instructions", "Vector Integer Merge Instructions"
    ++ each forms (λ f. rows_of (filter (λ op. has_form (carry_line op).forms f) (Vadc ∷ Vsbc ∷ Vmerge ∷ []))
    (λ op w. instr.Vector (Carry (op, source_of f (field 15 5 w)) (field 7 5 w) (field 20 5 w))))
    -- V, "Vector Integer Move Instructions"
    ++ rows_of forms (λ f w. instr.Vector (Move (source_of f (field 15 5 w)) (field 7 5 w)))
    -- V, "Whole Vector Register Move"
    ++ rows_of counts (λ count w. instr.Vector (WholeMove count (field 7 5 w) (field 20 5 w)))
    -- V, "Vector Mask-Register Logical Instructions"
    ++ rows_of (Vmandn ∷ Vmand ∷ Vmor ∷ Vmxor ∷ Vmorn ∷ Vmnand ∷ Vmnor ∷ Vmxnor ∷ [])
    (λ op w. instr.Vector (MaskLogic op (field 7 5 w) (field 15 5 w) (field 20 5 w)))
    -- V, "Vector Compress Instruction"
    ++ row (λ w. instr.Vector (Compress (field 7 5 w) (field 15 5 w) (field 20 5 w))) ∷ []
    -- V, "Vector count population in mask vcpop.m", "vfirst find-first-set mask bit"
    ++ rows_of (Vcpop ∷ Vfirst ∷ []) (λ op w. instr.Vector (MaskToScalar op (field 7 5 w) (field 20 5 w) (flag w)))
    -- V, "Vector Integer Extension"
    ++ rows_of (VzextVf8 ∷ VsextVf8 ∷ VzextVf4 ∷ VsextVf4 ∷ VzextVf2 ∷ VsextVf2 ∷ [])
    (λ op w. instr.Vector (Extend op (field 7 5 w) (field 20 5 w) (flag w)))
    -- V, "vmsbf.m set-before-first mask bit" and the like, "Vector Iota Instruction"
    ++ rows_of (Scan Vmsbf ∷ Scan Vmsof ∷ Scan Vmsif ∷ Viota ∷ [])
    (λ op w. instr.Vector (MaskUnary op (field 7 5 w) (field 20 5 w) (flag w)))
    -- V, "Vector Element Index Instruction"
    ++ row (λ w. instr.Vector (ElementIndex (field 7 5 w) (flag w))) ∷ []
    -- V, "Integer Scalar Move Instructions"
    ++ row (λ w. instr.Vector (MoveToScalar (field 7 5 w) (field 20 5 w))) ∷ []
    ++ row (λ w. instr.Vector (MoveToVector (field 7 5 w) (field 15 5 w))) ∷ []
    -- V, "Vector Unit-Stride Instructions", "Unit-stride Fault-Only-First Loads", "Unit-Stride Segment Loads and Stores"
    ++ each (unit.Load ∷ unit.FaultOnlyFirst ∷ unit.Store ∷ []) (λ op. rows_of widths (λ width w.
    instr.Access (UnitStride op width (field 29 3 w) (field 7 5 w) (field 15 5 w) (flag w))))
    -- V, "Vector Strided Instructions", "Vector Strided Segment Loads and Stores"
    ++ each directions (λ direction. rows_of widths (λ width w.
    instr.Access (Strided direction width (field 29 3 w) (field 7 5 w) (field 15 5 w) (field 20 5 w) (flag w))))
    -- V, "Vector Indexed Instructions", "Vector Indexed Segment Loads and Stores"
    ++ each directions (λ direction. each (order.Unordered ∷ order.Ordered ∷ []) (λ order. rows_of widths (λ width w.
    instr.Access (Indexed direction order width (field 29 3 w) (field 7 5 w) (field 15 5 w) (field 20 5 w) (flag w)))))
    -- V, "Vector Load/Store Whole Register Instructions"
    ++ each counts (λ count. rows_of widths (λ width w. instr.Access (WholeLoad count width (field 7 5 w) (field 15 5 w))))
    ++ rows_of counts (λ count w. instr.Access (WholeStore count (field 7 5 w) (field 15 5 w)))
    -- V, "Vector Unit-Stride Instructions": vlm.v, vsm.v
    ++ rows_of directions (λ direction w. instr.Access (MaskAccess direction (field 7 5 w) (field 15 5 w)))

-- the word has the bits that the row fixes
abbrev pub Matches : Row → ℕ → Type 0
Matches r word = bit_and word r.mask ≡ r.bits

-- the word belongs to this row of the table
abbrev pub IsRow : ℕ → Row → Type 0
IsRow word r = Contains table r × Matches r word

-- the instruction of the first row that matches
unfoldable pub scan : List Row → ℕ → Option Instr
scan [] word = None
scan (r ∷ rs) word = if nat_eq (bit_and word r.mask) r.bits then Some (r.instr word) else scan rs word

-- The rows of the instruction table by family, as the functions of the decoder search them. For each row there is an instruction with
-- zeros as operands; lists give the operations. `proofs/instruction_lemmas/Rows` proves that these are the rows of the table.
use Rattle.std.specs.Prelude.{ℕ, List, [], ◌∷◌, ◌++◌, map, true}
use Rattle.rv_model.specs.instructions.FixedBits.{field, flag, fixed}
use Rattle.rv_model.specs.instructions.Immediates.{store_immediate, branch_offset, jump_offset}
use Rattle.rv_model.specs.instructions.Operations.{form_of, source_of, line, vector_ops, carry_line}
use Rattle.rv_model.specs.instructions.Table.{parts, bits, Row, counts, directions, widths}
use Rattle.rv_model.specs.lending.Search.{those}
use Rattle.rv_model.specs.instructions.Types.{UpperOp, BranchOp, LoadOp, StoreOp, ImmediateOp, ShiftImmediateOp, ShiftImmediateWordOp, RegisterOp, SystemOp, CsrOp, CsrImmediateOp, CarryOp, MaskLogicOp, MaskToScalarOp, ExtendOp, MaskUnaryOp, Eew, UnitOp, Direction, Order, RegisterCount, Form, Major}
use Rattle.rv_model.specs.instructions.Variants.{Instr, Upper, Jump, JumpRegister, Branch, Load, Store, RegisterImmediate, ShiftImmediate, ShiftImmediateWord, RegisterRegister, Fence, System, Register, Immediate, SetVli, SetIvli, SetVl, Arith, Carry, Move, WholeMove, MaskLogic, Compress, MaskToScalar, Extend, MaskUnary, ElementIndex, MoveToScalar, MoveToVector, UnitStride, Strided, Indexed, WholeLoad, WholeStore, MaskAccess}
use Rattle.rv_model.specs.declared.instructions.operations.UpperOp.TheVariants as upper
use Rattle.rv_model.specs.declared.instructions.operations.BranchOp.TheVariants as branch
use Rattle.rv_model.specs.declared.instructions.operations.LoadOp.TheVariants as load
use Rattle.rv_model.specs.declared.instructions.operations.StoreOp.TheVariants as store
use Rattle.rv_model.specs.declared.instructions.operations.ImmediateOp.TheVariants as immediate
use Rattle.rv_model.specs.declared.instructions.operations.ShiftImmediateOp.TheVariants as shift_immediate
use Rattle.rv_model.specs.declared.instructions.operations.ShiftImmediateWordOp.TheVariants as shift_immediate_word
use Rattle.rv_model.specs.declared.instructions.operations.RegisterOp.TheVariants as register
use Rattle.rv_model.specs.declared.instructions.operations.SystemOp.TheVariants as system
use Rattle.rv_model.specs.declared.instructions.operations.CsrOp.TheVariants as csr
use Rattle.rv_model.specs.declared.instructions.operations.CsrImmediateOp.TheVariants as csr_immediate
use Rattle.rv_model.specs.declared.instructions.operations.MaskLogicOp.TheVariants as mask_logic
use Rattle.rv_model.specs.declared.instructions.operations.MaskToScalarOp.TheVariants as mask_to_scalar
use Rattle.rv_model.specs.declared.instructions.operations.ExtendOp.TheVariants as extend
use Rattle.rv_model.specs.declared.instructions.operations.MaskScanOp.TheVariants as mask_scan
use Rattle.rv_model.specs.declared.instructions.operations.MaskUnaryOp.TheVariants as mask_unary
use Rattle.rv_model.specs.declared.instructions.operations.UnitOp.TheVariants as unit
use Rattle.rv_model.specs.declared.instructions.operations.Direction.TheVariants as direction
use Rattle.rv_model.specs.declared.instructions.operations.Order.TheVariants as order
use Rattle.rv_model.specs.declared.instructions.operations.CarryOp.TheVariants as carry
use Rattle.rv_model.specs.declared.instructions.operations.Major.TheVariants.{Opi}
use Rattle.rv_model.specs.declared.instructions.instruction.Instr.TheVariants as instr

-- LUI, AUIPC
abbrev pub upper_ops : List UpperOp
upper_ops = upper.Lui ∷ upper.Auipc ∷ []

-- BRANCH
abbrev pub branch_ops : List BranchOp
branch_ops = branch.Beq ∷ branch.Bne ∷ branch.Blt ∷ branch.Bge ∷ branch.Bltu ∷ branch.Bgeu ∷ []

-- LOAD
abbrev pub load_ops : List LoadOp
load_ops = load.Lb ∷ load.Lh ∷ load.Lw ∷ load.Ld ∷ load.Lbu ∷ load.Lhu ∷ load.Lwu ∷ []

-- STORE
abbrev pub store_ops : List StoreOp
store_ops = store.Sb ∷ store.Sh ∷ store.Sw ∷ store.Sd ∷ []

-- OP-IMM and OP-IMM-32 with an immediate of 12 bits
abbrev pub immediate_ops : List ImmediateOp
immediate_ops =
    immediate.Addi ∷ immediate.Slti ∷ immediate.Sltiu ∷ immediate.Xori ∷ immediate.Ori ∷ immediate.Andi ∷ immediate.Addiw ∷ []

-- OP-IMM with a shift amount of six bits
abbrev pub shift_immediate_ops : List ShiftImmediateOp
shift_immediate_ops = shift_immediate.Slli ∷ shift_immediate.Srli ∷ shift_immediate.Srai ∷ []

-- OP-IMM-32 with a shift amount of five bits
abbrev pub shift_immediate_word_ops : List ShiftImmediateWordOp
shift_immediate_word_ops = shift_immediate_word.Slliw ∷ shift_immediate_word.Srliw ∷ shift_immediate_word.Sraiw ∷ []

-- OP and OP-32
abbrev pub register_ops : List RegisterOp
register_ops =
    register.Add ∷ register.Sub ∷ register.Sll ∷ register.Slt ∷ register.Sltu ∷ register.Xor ∷ register.Srl ∷ register.Sra ∷ register.Or ∷ register.And ∷ register.Mul ∷
    register.Mulh ∷ register.Mulhsu ∷ register.Mulhu ∷ register.Div ∷ register.Divu ∷ register.Rem ∷ register.Remu ∷ register.Addw ∷ register.Subw ∷ register.Sllw ∷
    register.Srlw ∷ register.Sraw ∷ register.Mulw ∷ register.Divw ∷ register.Divuw ∷ register.Remw ∷ register.Remuw ∷ []

-- SYSTEM with no operands
abbrev pub system_ops : List SystemOp
system_ops = system.Ecall ∷ system.Ebreak ∷ []

-- SYSTEM with a scalar register
abbrev pub csr_ops : List CsrOp
csr_ops = csr.Csrrw ∷ csr.Csrrs ∷ csr.Csrrc ∷ []

-- SYSTEM with an immediate
abbrev pub csr_immediate_ops : List CsrImmediateOp
csr_immediate_ops = csr_immediate.Csrrwi ∷ csr_immediate.Csrrsi ∷ csr_immediate.Csrrci ∷ []

-- mask logic
abbrev pub mask_logic_ops : List MaskLogicOp
mask_logic_ops =
    mask_logic.Vmandn ∷ mask_logic.Vmand ∷ mask_logic.Vmor ∷ mask_logic.Vmxor ∷ mask_logic.Vmorn ∷
    mask_logic.Vmnand ∷ mask_logic.Vmnor ∷ mask_logic.Vmxnor ∷ []

-- VWXUNARY0 on a mask
abbrev pub mask_to_scalar_ops : List MaskToScalarOp
mask_to_scalar_ops = mask_to_scalar.Vcpop ∷ mask_to_scalar.Vfirst ∷ []

-- VXUNARY0
abbrev pub extend_ops : List ExtendOp
extend_ops =
    extend.VzextVf8 ∷ extend.VsextVf8 ∷ extend.VzextVf4 ∷ extend.VsextVf4 ∷ extend.VzextVf2 ∷
    extend.VsextVf2 ∷ []

-- VMUNARY0 on a mask
abbrev pub mask_unary_ops : List MaskUnaryOp
mask_unary_ops =
    mask_unary.Scan mask_scan.Vmsbf ∷ mask_unary.Scan mask_scan.Vmsof ∷ mask_unary.Scan mask_scan.Vmsif ∷
    mask_unary.Viota ∷ []

-- operations that read v0
abbrev pub carry_ops : List CarryOp
carry_ops = carry.Vadc ∷ carry.Vsbc ∷ carry.Vmerge ∷ []

-- each item with each width
abbrev pub with_widths : {A : Type 0} → List A → List (A × Eew)
with_widths [] = []
with_widths (x ∷ xs) = map (λ w. (x, w)) widths ++ with_widths xs

-- each unit-stride access
abbrev pub unit_accesses : List (UnitOp × Eew)
unit_accesses = with_widths (unit.Load ∷ unit.FaultOnlyFirst ∷ unit.Store ∷ [])

-- each strided access
abbrev pub strided_accesses : List (Direction × Eew)
strided_accesses = with_widths directions

-- both directions in both orders
abbrev pub ordered_directions : List (Direction × Order)
ordered_directions =
    (direction.Load, order.Unordered) ∷ (direction.Load, order.Ordered) ∷ (direction.Store, order.Unordered) ∷
    (direction.Store, order.Ordered) ∷ []

-- each indexed access
abbrev pub indexed_accesses : List ((Direction × Order) × Eew)
indexed_accesses = with_widths ordered_directions

-- each load of whole registers
abbrev pub whole_loads : List (RegisterCount × Eew)
whole_loads = with_widths counts

-- families of rows: a family has one layout of operands, and for vector operations one place in the opcode map
pub data Family : Type 0 where
  -- RV32I, "Integer Register-Immediate Instructions"
  Uppers : Family
  -- RV32I, "Unconditional Jumps"
  Jumps : Family
  -- RV32I, "Unconditional Jumps"
  JumpRegisters : Family
  -- RV32I, "Conditional Branches"
  Branches : Family
  -- RV32I and RV64I, "Load and Store Instructions"
  Loads : Family
  -- RV32I and RV64I, "Load and Store Instructions"
  Stores : Family
  -- RV32I and RV64I, "Integer Register-Immediate Instructions"
  RegisterImmediates : Family
  -- RV64I, "Integer Register-Immediate Instructions"
  ShiftImmediates : Family
  -- RV64I, "Integer Register-Immediate Instructions"
  ShiftImmediateWords : Family
  -- RV32I and RV64I, "Integer Register-Register Operations"; M, "Multiplication Operations", "Division Operations"
  RegisterRegisters : Family
  -- RV32I, "Memory Ordering Instructions"
  Fences : Family
  -- RV32I, "Environment Call and Breakpoints"
  Systems : Family
  -- Zicsr, "CSR Instructions"
  Csrs : Family
  -- Zicsr, "CSR Instructions"
  CsrImmediates : Family
  -- V, "Configuration-Setting Instructions"
  SetVlis : Family
  SetIvlis : Family
  SetVls : Family
  -- V, the rows of "Vector Instruction Listing" that may be masked
  Ariths : Major → Form → Family
  -- V, "Vector Integer Add-with-Carry / Subtract-with-Borrow Instructions", "Vector Integer Merge Instructions"
  Carries : Form → Family
  -- V, "Vector Integer Move Instructions"
  Moves : Form → Family
  -- V, "Whole Vector Register Move"
  WholeMoves : Family
  -- V, "Vector Mask-Register Logical Instructions"
  MaskLogics : Family
  -- V, "Vector Compress Instruction"
  Compresses : Family
  -- V, "Vector count population in mask vcpop.m", "vfirst find-first-set mask bit"
  MasksToScalar : Family
  -- V, "Vector Integer Extension"
  Extends : Family
  -- V, "vmsbf.m set-before-first mask bit" and the like, "Vector Iota Instruction"
  MaskUnaries : Family
  -- V, "Vector Element Index Instruction"
  ElementIndices : Family
  -- V, "Integer Scalar Move Instructions"
  MovesToScalar : Family
  MovesToVector : Family
  -- V, "Vector Unit-Stride Instructions", "Unit-stride Fault-Only-First Loads", "Unit-Stride Segment Loads and Stores"
  Units : Family
  -- V, "Vector Strided Instructions", "Vector Strided Segment Loads and Stores"
  Strideds : Family
  -- V, "Vector Indexed Instructions", "Vector Indexed Segment Loads and Stores"
  Indexeds : Family
  -- V, "Vector Load/Store Whole Register Instructions"
  WholeLoads : Family
  WholeStores : Family
  -- V, "Vector Unit-Stride Instructions": vlm.v, vsm.v
  MaskMemories : Family

-- an instruction for each row of a family, with zeros for operands
abbrev pub templates : Family → List Instr
templates Uppers = map (λ op. instr.Scalar (Upper op 0 0)) upper_ops
templates Jumps = instr.Scalar (Jump 0 0) ∷ []
templates JumpRegisters = instr.Scalar (JumpRegister 0 0 0) ∷ []
templates Branches = map (λ op. instr.Scalar (Branch op 0 0 0)) branch_ops
templates Loads = map (λ op. instr.Scalar (Load op 0 0 0)) load_ops
templates Stores = map (λ op. instr.Scalar (Store op 0 0 0)) store_ops
templates RegisterImmediates = map (λ op. instr.Scalar (RegisterImmediate op 0 0 0)) immediate_ops
templates ShiftImmediates = map (λ op. instr.Scalar (ShiftImmediate op 0 0 0)) shift_immediate_ops
templates ShiftImmediateWords = map (λ op. instr.Scalar (ShiftImmediateWord op 0 0 0)) shift_immediate_word_ops
templates RegisterRegisters = map (λ op. instr.Scalar (RegisterRegister op 0 0 0)) register_ops
templates Fences = instr.Scalar (Fence 0 0 0) ∷ []
templates Systems = map (λ op. instr.Scalar (System op)) system_ops
templates Csrs = map (λ op. instr.Csr (Register op 0 0 0)) csr_ops
templates CsrImmediates = map (λ op. instr.Csr (Immediate op 0 0 0)) csr_immediate_ops
templates SetVlis = instr.Vector (SetVli 0 0 0) ∷ []
templates SetIvlis = instr.Vector (SetIvli 0 0 0) ∷ []
templates SetVls = instr.Vector (SetVl 0 0 0) ∷ []
templates (Ariths m f) = map (λ op. instr.Vector (Arith (op, source_of f 0) 0 0 true)) (those line m f vector_ops)
templates (Carries f) = map (λ op. instr.Vector (Carry (op, source_of f 0) 0 0)) (those carry_line Opi f carry_ops)
templates (Moves f) = instr.Vector (Move (source_of f 0) 0) ∷ []
templates WholeMoves = map (λ op. instr.Vector (WholeMove op 0 0)) counts
templates MaskLogics = map (λ op. instr.Vector (MaskLogic op 0 0 0)) mask_logic_ops
templates Compresses = instr.Vector (Compress 0 0 0) ∷ []
templates MasksToScalar = map (λ op. instr.Vector (MaskToScalar op 0 0 true)) mask_to_scalar_ops
templates Extends = map (λ op. instr.Vector (Extend op 0 0 true)) extend_ops
templates MaskUnaries = map (λ op. instr.Vector (MaskUnary op 0 0 true)) mask_unary_ops
templates ElementIndices = instr.Vector (ElementIndex 0 true) ∷ []
templates MovesToScalar = instr.Vector (MoveToScalar 0 0) ∷ []
templates MovesToVector = instr.Vector (MoveToVector 0 0) ∷ []
templates Units = map (λ op. instr.Access (UnitStride op.0 op.1 0 0 0 true)) unit_accesses
templates Strideds = map (λ op. instr.Access (Strided op.0 op.1 0 0 0 0 true)) strided_accesses
templates Indexeds = map (λ op. instr.Access (Indexed op.0.0 op.0.1 op.1 0 0 0 0 true)) indexed_accesses
templates WholeLoads = map (λ op. instr.Access (WholeLoad op.0 op.1 0 0)) whole_loads
templates WholeStores = map (λ op. instr.Access (WholeStore op 0 0)) counts
templates MaskMemories = map (λ op. instr.Access (MaskAccess op 0 0)) directions

-- the instruction of that operation with the operands that a word holds
abbrev pub filled : Instr → ℕ → Instr
filled (instr.Scalar (Upper op rd imm)) word = instr.Scalar (Upper op (field 7 5 word) (field 12 20 word))
filled (instr.Scalar (Jump rd imm)) word = instr.Scalar (Jump (field 7 5 word) (jump_offset word))
filled (instr.Scalar (JumpRegister rd rs1 imm)) word = instr.Scalar (JumpRegister (field 7 5 word) (field 15 5 word) (field 20 12 word))
filled (instr.Scalar (Branch op rs1 rs2 imm)) word = instr.Scalar (Branch op (field 15 5 word) (field 20 5 word) (branch_offset word))
filled (instr.Scalar (Load op rd rs1 imm)) word = instr.Scalar (Load op (field 7 5 word) (field 15 5 word) (field 20 12 word))
filled (instr.Scalar (Store op rs1 rs2 imm)) word = instr.Scalar (Store op (field 15 5 word) (field 20 5 word) (store_immediate word))
filled (instr.Scalar (RegisterImmediate op rd rs1 imm)) word = instr.Scalar (RegisterImmediate op (field 7 5 word) (field 15 5 word) (field 20 12 word))
filled (instr.Scalar (ShiftImmediate op rd rs1 shamt)) word = instr.Scalar (ShiftImmediate op (field 7 5 word) (field 15 5 word) (field 20 6 word))
filled (instr.Scalar (ShiftImmediateWord op rd rs1 shamt)) word = instr.Scalar (ShiftImmediateWord op (field 7 5 word) (field 15 5 word) (field 20 5 word))
filled (instr.Scalar (RegisterRegister op rd rs1 rs2)) word = instr.Scalar (RegisterRegister op (field 7 5 word) (field 15 5 word) (field 20 5 word))
filled (instr.Scalar (Fence rd rs1 ordering)) word = instr.Scalar (Fence (field 7 5 word) (field 15 5 word) (field 20 12 word))
filled (instr.Scalar (System op)) word = instr.Scalar (System op)
filled (instr.Csr (Register op rd rs1 csr)) word = instr.Csr (Register op (field 7 5 word) (field 15 5 word) (field 20 12 word))
filled (instr.Csr (Immediate op rd imm csr)) word = instr.Csr (Immediate op (field 7 5 word) (field 15 5 word) (field 20 12 word))
filled (instr.Vector (SetVli rd rs1 vtype)) word = instr.Vector (SetVli (field 7 5 word) (field 15 5 word) (field 20 11 word))
filled (instr.Vector (SetIvli rd avl vtype)) word = instr.Vector (SetIvli (field 7 5 word) (field 15 5 word) (field 20 10 word))
filled (instr.Vector (SetVl rd rs1 rs2)) word = instr.Vector (SetVl (field 7 5 word) (field 15 5 word) (field 20 5 word))
filled (instr.Vector (Arith arith vd vs2 vm)) word =
    instr.Vector (Arith (arith.0, source_of (form_of arith.1) (field 15 5 word)) (field 7 5 word) (field 20 5 word) (flag word))
filled (instr.Vector (Carry carry vd vs2)) word =
    instr.Vector (Carry (carry.0, source_of (form_of carry.1) (field 15 5 word)) (field 7 5 word) (field 20 5 word))
filled (instr.Vector (Move source vd)) word = instr.Vector (Move (source_of (form_of source) (field 15 5 word)) (field 7 5 word))
filled (instr.Vector (WholeMove count vd vs2)) word = instr.Vector (WholeMove count (field 7 5 word) (field 20 5 word))
filled (instr.Vector (MaskLogic op vd vs1 vs2)) word = instr.Vector (MaskLogic op (field 7 5 word) (field 15 5 word) (field 20 5 word))
filled (instr.Vector (Compress vd vs1 vs2)) word = instr.Vector (Compress (field 7 5 word) (field 15 5 word) (field 20 5 word))
filled (instr.Vector (MaskToScalar op rd vs2 vm)) word = instr.Vector (MaskToScalar op (field 7 5 word) (field 20 5 word) (flag word))
filled (instr.Vector (Extend op vd vs2 vm)) word = instr.Vector (Extend op (field 7 5 word) (field 20 5 word) (flag word))
filled (instr.Vector (MaskUnary op vd vs2 vm)) word = instr.Vector (MaskUnary op (field 7 5 word) (field 20 5 word) (flag word))
filled (instr.Vector (ElementIndex vd vm)) word = instr.Vector (ElementIndex (field 7 5 word) (flag word))
filled (instr.Vector (MoveToScalar rd vs2)) word = instr.Vector (MoveToScalar (field 7 5 word) (field 20 5 word))
filled (instr.Vector (MoveToVector vd rs1)) word = instr.Vector (MoveToVector (field 7 5 word) (field 15 5 word))
filled (instr.Access (UnitStride op width nf vd rs1 vm)) word =
    instr.Access (UnitStride op width (field 29 3 word) (field 7 5 word) (field 15 5 word) (flag word))
filled (instr.Access (Strided direction width nf vd rs1 rs2 vm)) word =
    instr.Access (Strided direction width (field 29 3 word) (field 7 5 word) (field 15 5 word) (field 20 5 word) (flag word))
filled (instr.Access (Indexed direction order width nf vd rs1 vs2 vm)) word =
    instr.Access (Indexed direction order width (field 29 3 word) (field 7 5 word) (field 15 5 word) (field 20 5 word) (flag word))
filled (instr.Access (WholeLoad count width vd rs1)) word = instr.Access (WholeLoad count width (field 7 5 word) (field 15 5 word))
filled (instr.Access (WholeStore count vd rs1)) word = instr.Access (WholeStore count (field 7 5 word) (field 15 5 word))
filled (instr.Access (MaskAccess direction vd rs1)) word = instr.Access (MaskAccess direction (field 7 5 word) (field 15 5 word))

-- the row of a template
abbrev pub row_of : Instr → Row
row_of t = record { mask = fixed (parts t); bits = bits t; instr = filled t }

-- the rows of a family
unfoldable pub rows : Family → List Row
rows f = map row_of (templates f)

-- Bit fields of a 32-bit word, and a word as its fixed bits and its operands' fields. The entry of each operation in the manual's tables is
-- its name and the bits that it fixes: opcode in bits 6 to 0, funct3 in bits 14 to 12, funct7 in bits 31 to 25.
use Rattle.std.specs.Prelude.{ℕ, ◌+◌, ◌-◌, ◌*◌, ◌/◌, ◌%◌, ◌^◌, List, [], ◌∷◌, Bool, true, false, nat_eq, codes}
use Rattle.rv_model.specs.instructions.Types.{UpperOp, BranchOp, LoadOp, StoreOp, ImmediateOp, ShiftImmediateOp, ShiftImmediateWordOp, RegisterOp, SystemOp, CsrOp, CsrImmediateOp, MaskLogicOp, MaskToScalarOp, ExtendOp, MaskUnaryOp, Eew, UnitOp, Direction, Order, RegisterCount}
use Rattle.rv_model.specs.declared.instructions.operations.UpperOp.TheVariants as upper
use Rattle.rv_model.specs.declared.instructions.operations.BranchOp.TheVariants as branch
use Rattle.rv_model.specs.declared.instructions.operations.LoadOp.TheVariants as load
use Rattle.rv_model.specs.declared.instructions.operations.StoreOp.TheVariants as store
use Rattle.rv_model.specs.declared.instructions.operations.ImmediateOp.TheVariants as immediate
use Rattle.rv_model.specs.declared.instructions.operations.ShiftImmediateOp.TheVariants as shift_immediate
use Rattle.rv_model.specs.declared.instructions.operations.ShiftImmediateWordOp.TheVariants as shift_immediate_word
use Rattle.rv_model.specs.declared.instructions.operations.RegisterOp.TheVariants as register
use Rattle.rv_model.specs.declared.instructions.operations.SystemOp.TheVariants as system
use Rattle.rv_model.specs.declared.instructions.operations.CsrOp.TheVariants as csr
use Rattle.rv_model.specs.declared.instructions.operations.CsrImmediateOp.TheVariants as csr_immediate
use Rattle.rv_model.specs.declared.instructions.operations.MaskLogicOp.TheVariants as mask_logic
use Rattle.rv_model.specs.declared.instructions.operations.MaskToScalarOp.TheVariants as mask_to_scalar
use Rattle.rv_model.specs.declared.instructions.operations.ExtendOp.TheVariants as extend
use Rattle.rv_model.specs.declared.instructions.operations.MaskScanOp.TheVariants as mask_scan
use Rattle.rv_model.specs.declared.instructions.operations.MaskUnaryOp.TheVariants as mask_unary
use Rattle.rv_model.specs.declared.instructions.operations.Eew.TheVariants as width
use Rattle.rv_model.specs.declared.instructions.operations.UnitOp.TheVariants as unit
use Rattle.rv_model.specs.declared.instructions.operations.Direction.TheVariants as direction
use Rattle.rv_model.specs.declared.instructions.operations.Order.TheVariants as order
use Rattle.rv_model.specs.declared.instructions.operations.RegisterCount.TheVariants as count

-- the len bits of a word from bit low up
abbrev pub field : ℕ → ℕ → ℕ → ℕ
field low len word = word / 2 ^ low % 2 ^ len

-- bit 25, which is set if a vector instruction is not masked
abbrev pub flag : ℕ → Bool
flag word = nat_eq (field 25 1 word) 1

-- the value of bit 25
abbrev pub flag_bit : Bool → ℕ
flag_bit true = 1
flag_bit false = 0

-- an operand or a piece of one, with its lowest bit and its width in bits
pub record Part : Type 0 where
  pub low : ℕ
  pub len : ℕ
  pub value : ℕ

-- a value in the len bits from bit low up
abbrev pub part : ℕ → ℕ → ℕ → Part
part low len value = record { low = low; len = len; value = value }

-- the word with the fixed bits `code` and these parts
abbrev pub sum_of : ℕ → List Part → ℕ
sum_of code [] = code
sum_of code (p ∷ ps) = sum_of code ps + p.value * 2 ^ p.low

-- a mask, with ones added at the bits of the parts
abbrev pub mask_of : ℕ → List Part → ℕ
mask_of m [] = m
mask_of m (p ∷ ps) = mask_of m ps + (2 ^ (p.len + p.low) - 2 ^ p.low)

-- ones at the bits outside the parts
abbrev pub fixed : List Part → ℕ
fixed ps = 2 ^ 32 - 1 - mask_of 0 ps

-- opcode and funct3
abbrev pub coded : ℕ → ℕ → ℕ
coded opcode funct3 = opcode + funct3 * 2 ^ 12

-- opcode, funct3 and funct7
abbrev pub register_coded : ℕ → ℕ → ℕ → ℕ
register_coded opcode funct3 funct7 = coded opcode funct3 + funct7 * 2 ^ 25

-- the fixed bits of a vector operation: funct3, funct6, bit 25 if it must be set, and vs1
abbrev pub vector_coded : ℕ → ℕ → ℕ → ℕ → ℕ
vector_coded funct3 funct6 unmasked vs1 = coded 0x57 funct3 + funct6 * 2 ^ 26 + unmasked * 2 ^ 25 + vs1 * 2 ^ 15

-- ---- RV64I (Unprivileged ISA, "RV32I" and "RV64I", with the opcode map of "RV32/64G Instruction Set Listings")

-- LUI, AUIPC
abbrev pub upper_entry : UpperOp → List ℕ × ℕ
upper_entry upper.Lui = (codes "lui", 0x37)
upper_entry upper.Auipc = (codes "auipc", 0x17)

-- BRANCH
abbrev pub branch_entry : BranchOp → List ℕ × ℕ
branch_entry branch.Beq = (codes "beq", coded 0x63 0)
branch_entry branch.Bne = (codes "bne", coded 0x63 1)
branch_entry branch.Blt = (codes "blt", coded 0x63 4)
branch_entry branch.Bge = (codes "bge", coded 0x63 5)
branch_entry branch.Bltu = (codes "bltu", coded 0x63 6)
branch_entry branch.Bgeu = (codes "bgeu", coded 0x63 7)

-- LOAD
abbrev pub load_entry : LoadOp → List ℕ × ℕ
load_entry load.Lb = (codes "lb", coded 0x03 0)
load_entry load.Lh = (codes "lh", coded 0x03 1)
load_entry load.Lw = (codes "lw", coded 0x03 2)
load_entry load.Ld = (codes "ld", coded 0x03 3)
load_entry load.Lbu = (codes "lbu", coded 0x03 4)
load_entry load.Lhu = (codes "lhu", coded 0x03 5)
load_entry load.Lwu = (codes "lwu", coded 0x03 6)

-- STORE
abbrev pub store_entry : StoreOp → List ℕ × ℕ
store_entry store.Sb = (codes "sb", coded 0x23 0)
store_entry store.Sh = (codes "sh", coded 0x23 1)
store_entry store.Sw = (codes "sw", coded 0x23 2)
store_entry store.Sd = (codes "sd", coded 0x23 3)

-- OP-IMM and OP-IMM-32 with an immediate of 12 bits
abbrev pub immediate_entry : ImmediateOp → List ℕ × ℕ
immediate_entry immediate.Addi = (codes "addi", coded 0x13 0)
immediate_entry immediate.Slti = (codes "slti", coded 0x13 2)
immediate_entry immediate.Sltiu = (codes "sltiu", coded 0x13 3)
immediate_entry immediate.Xori = (codes "xori", coded 0x13 4)
immediate_entry immediate.Ori = (codes "ori", coded 0x13 6)
immediate_entry immediate.Andi = (codes "andi", coded 0x13 7)
immediate_entry immediate.Addiw = (codes "addiw", coded 0x1b 0)

-- OP-IMM with a shift amount of six bits
abbrev pub shift_immediate_entry : ShiftImmediateOp → List ℕ × ℕ
shift_immediate_entry shift_immediate.Slli = (codes "slli", register_coded 0x13 1 0x00)
shift_immediate_entry shift_immediate.Srli = (codes "srli", register_coded 0x13 5 0x00)
shift_immediate_entry shift_immediate.Srai = (codes "srai", register_coded 0x13 5 0x20)

-- OP-IMM-32 with a shift amount of five bits
abbrev pub shift_immediate_word_entry : ShiftImmediateWordOp → List ℕ × ℕ
shift_immediate_word_entry shift_immediate_word.Slliw = (codes "slliw", register_coded 0x1b 1 0x00)
shift_immediate_word_entry shift_immediate_word.Srliw = (codes "srliw", register_coded 0x1b 5 0x00)
shift_immediate_word_entry shift_immediate_word.Sraiw = (codes "sraiw", register_coded 0x1b 5 0x20)

-- OP and OP-32, with the "M" extension
abbrev pub register_entry : RegisterOp → List ℕ × ℕ
register_entry register.Add = (codes "add", register_coded 0x33 0 0x00)
register_entry register.Sub = (codes "sub", register_coded 0x33 0 0x20)
register_entry register.Sll = (codes "sll", register_coded 0x33 1 0x00)
register_entry register.Slt = (codes "slt", register_coded 0x33 2 0x00)
register_entry register.Sltu = (codes "sltu", register_coded 0x33 3 0x00)
register_entry register.Xor = (codes "xor", register_coded 0x33 4 0x00)
register_entry register.Srl = (codes "srl", register_coded 0x33 5 0x00)
register_entry register.Sra = (codes "sra", register_coded 0x33 5 0x20)
register_entry register.Or = (codes "or", register_coded 0x33 6 0x00)
register_entry register.And = (codes "and", register_coded 0x33 7 0x00)
register_entry register.Mul = (codes "mul", register_coded 0x33 0 0x01)
register_entry register.Mulh = (codes "mulh", register_coded 0x33 1 0x01)
register_entry register.Mulhsu = (codes "mulhsu", register_coded 0x33 2 0x01)
register_entry register.Mulhu = (codes "mulhu", register_coded 0x33 3 0x01)
register_entry register.Div = (codes "div", register_coded 0x33 4 0x01)
register_entry register.Divu = (codes "divu", register_coded 0x33 5 0x01)
register_entry register.Rem = (codes "rem", register_coded 0x33 6 0x01)
register_entry register.Remu = (codes "remu", register_coded 0x33 7 0x01)
register_entry register.Addw = (codes "addw", register_coded 0x3b 0 0x00)
register_entry register.Subw = (codes "subw", register_coded 0x3b 0 0x20)
register_entry register.Sllw = (codes "sllw", register_coded 0x3b 1 0x00)
register_entry register.Srlw = (codes "srlw", register_coded 0x3b 5 0x00)
register_entry register.Sraw = (codes "sraw", register_coded 0x3b 5 0x20)
register_entry register.Mulw = (codes "mulw", register_coded 0x3b 0 0x01)
register_entry register.Divw = (codes "divw", register_coded 0x3b 4 0x01)
register_entry register.Divuw = (codes "divuw", register_coded 0x3b 5 0x01)
register_entry register.Remw = (codes "remw", register_coded 0x3b 6 0x01)
register_entry register.Remuw = (codes "remuw", register_coded 0x3b 7 0x01)

-- SYSTEM with no operands: the whole word
abbrev pub system_entry : SystemOp → List ℕ × ℕ
system_entry system.Ecall = (codes "ecall", 0x00000073)
system_entry system.Ebreak = (codes "ebreak", 0x00100073)

-- ---- Zicsr (Unprivileged ISA, "Zicsr", CSR Instructions)

-- SYSTEM with a scalar register
abbrev pub csr_entry : CsrOp → List ℕ × ℕ
csr_entry csr.Csrrw = (codes "csrrw", coded 0x73 1)
csr_entry csr.Csrrs = (codes "csrrs", coded 0x73 2)
csr_entry csr.Csrrc = (codes "csrrc", coded 0x73 3)

-- SYSTEM with an immediate
abbrev pub csr_immediate_entry : CsrImmediateOp → List ℕ × ℕ
csr_immediate_entry csr_immediate.Csrrwi = (codes "csrrwi", coded 0x73 5)
csr_immediate_entry csr_immediate.Csrrsi = (codes "csrrsi", coded 0x73 6)
csr_immediate_entry csr_immediate.Csrrci = (codes "csrrci", coded 0x73 7)

-- ---- vector operations with fewer operands (V extension, "Vector Instruction Listing"): funct3, funct6, and bit 25 and vs1 if they are
-- fixed

-- "Vector Mask-Register Logical Instructions"
abbrev pub mask_logic_entry : MaskLogicOp → List ℕ × ℕ
mask_logic_entry mask_logic.Vmandn = (codes "vmandn.mm", vector_coded 2 0x18 1 0)
mask_logic_entry mask_logic.Vmand = (codes "vmand.mm", vector_coded 2 0x19 1 0)
mask_logic_entry mask_logic.Vmor = (codes "vmor.mm", vector_coded 2 0x1a 1 0)
mask_logic_entry mask_logic.Vmxor = (codes "vmxor.mm", vector_coded 2 0x1b 1 0)
mask_logic_entry mask_logic.Vmorn = (codes "vmorn.mm", vector_coded 2 0x1c 1 0)
mask_logic_entry mask_logic.Vmnand = (codes "vmnand.mm", vector_coded 2 0x1d 1 0)
mask_logic_entry mask_logic.Vmnor = (codes "vmnor.mm", vector_coded 2 0x1e 1 0)
mask_logic_entry mask_logic.Vmxnor = (codes "vmxnor.mm", vector_coded 2 0x1f 1 0)

-- VWXUNARY0 on a mask: "Vector count population in mask vcpop.m", "vfirst find-first-set mask bit"
abbrev pub mask_to_scalar_entry : MaskToScalarOp → List ℕ × ℕ
mask_to_scalar_entry mask_to_scalar.Vcpop = (codes "vcpop.m", vector_coded 2 0x10 0 16)
mask_to_scalar_entry mask_to_scalar.Vfirst = (codes "vfirst.m", vector_coded 2 0x10 0 17)

-- VXUNARY0: "Vector Integer Extension"
abbrev pub extend_entry : ExtendOp → List ℕ × ℕ
extend_entry extend.VzextVf8 = (codes "vzext.vf8", vector_coded 2 0x12 0 2)
extend_entry extend.VsextVf8 = (codes "vsext.vf8", vector_coded 2 0x12 0 3)
extend_entry extend.VzextVf4 = (codes "vzext.vf4", vector_coded 2 0x12 0 4)
extend_entry extend.VsextVf4 = (codes "vsext.vf4", vector_coded 2 0x12 0 5)
extend_entry extend.VzextVf2 = (codes "vzext.vf2", vector_coded 2 0x12 0 6)
extend_entry extend.VsextVf2 = (codes "vsext.vf2", vector_coded 2 0x12 0 7)

-- VMUNARY0 on a mask: "vmsbf.m set-before-first mask bit" and the like, "Vector Iota Instruction"
abbrev pub mask_unary_entry : MaskUnaryOp → List ℕ × ℕ
mask_unary_entry (mask_unary.Scan mask_scan.Vmsbf) = (codes "vmsbf.m", vector_coded 2 0x14 0 1)
mask_unary_entry (mask_unary.Scan mask_scan.Vmsof) = (codes "vmsof.m", vector_coded 2 0x14 0 2)
mask_unary_entry (mask_unary.Scan mask_scan.Vmsif) = (codes "vmsif.m", vector_coded 2 0x14 0 3)
mask_unary_entry mask_unary.Viota = (codes "viota.m", vector_coded 2 0x14 0 16)

-- ---- vector memory (V extension, "Vector Load/Store Instruction Encoding": nf 31 to 29, mew 28, mop 27 to 26, width
-- 14 to 12)

-- the width of a memory element or an index
abbrev pub width_bits : Eew → ℕ
width_bits width.E8 = 0 * 2 ^ 12
width_bits width.E16 = 5 * 2 ^ 12
width_bits width.E32 = 6 * 2 ^ 12
width_bits width.E64 = 7 * 2 ^ 12

-- LOAD-FP, STORE-FP
abbrev pub direction_bits : Direction → ℕ
direction_bits direction.Load = 0x07
direction_bits direction.Store = 0x27

-- the bits of a unit-stride access, with lumop or sumop (bits 24 to 20)
abbrev pub unit_bits : UnitOp → ℕ
unit_bits unit.Load = direction_bits direction.Load  -- vle8.v, vlseg2e8.v and the like
unit_bits unit.FaultOnlyFirst = direction_bits direction.Load + 16 * 2 ^ 20  -- vle8ff.v, vlseg2e8ff.v
unit_bits unit.Store = direction_bits direction.Store  -- vse8.v, vsseg2e8.v

-- the bits of an indexed access, with mop (bits 27 and 26)
abbrev pub order_bits : Order → ℕ
order_bits order.Unordered = 1 * 2 ^ 26  -- vluxei8.v, vsuxei8.v, vluxseg2ei8.v, vsuxseg2ei8.v and the like
order_bits order.Ordered = 3 * 2 ^ 26  -- vloxei8.v, vsoxei8.v, vloxseg2ei8.v, vsoxseg2ei8.v

-- the number of registers less 1, as in vs1 of a whole-register move and in nf of a whole-register load or store
abbrev pub one_less : RegisterCount → ℕ
one_less count.One = 0
one_less count.Two = 1
one_less count.Four = 3
one_less count.Eight = 7

-- nf of a whole-register access, with 01000 at lumop or sumop and bit 25 set: vl1re8.v, vs1r.v and the like
abbrev pub count_bits : RegisterCount → ℕ
count_bits count = one_less count * 2 ^ 29 + 8 * 2 ^ 20 + 2 ^ 25

-- The operands of each instruction's text, from the fields of the instruction: the operands that its slots hold, in order. The slots are in
-- `InstructionTexts`, with the manual's sections. Only a law uses these definitions.
use Rattle.std.specs.Prelude.{ℕ, ◌≡◌, ◌==◌, List, [], ◌∷◌, flat_map, Bool, true, false, if◌then◌else◌, IfSome}
use Rattle.rv_model.specs.instructions.Types.{VectorOp, Source}
use Rattle.rv_model.specs.instructions.Variants.{Instr, Upper, Jump, JumpRegister, Branch, Load, Store, RegisterImmediate, ShiftImmediate, ShiftImmediateWord, RegisterRegister, Fence, System, Register, Immediate, SetVli, SetIvli, SetVl, Arith, Carry, Move, WholeMove, MaskLogic, Compress, MaskToScalar, Extend, MaskUnary, ElementIndex, MoveToScalar, MoveToVector, UnitStride, Strided, Indexed, WholeLoad, WholeStore, MaskAccess}
use Rattle.rv_model.specs.declared.instructions.operations.VectorOp.TheVariants as vector_op
use Rattle.rv_model.specs.declared.instructions.source.Source.TheVariants as source
use Rattle.rv_model.specs.declared.instructions.instruction.Instr.TheVariants as instr
use Rattle.rv_model.specs.declared.assembler.forms.Slot.{Slot}
use Rattle.rv_model.specs.declared.assembler.forms.Slot.TheVariants as slot
use Rattle.rv_model.specs.elements.Formulas.{has_unsigned_immediate}
use Rattle.rv_model.specs.elements.FixedPoint.{has_unsigned_shift}
use Rattle.rv_model.specs.instructions.Table.{scan, table}
use Rattle.rv_model.specs.assembler.Slots.{scale}
use Rattle.rv_model.specs.assembler.Fields.{value_of, bit_count}
use Rattle.rv_model.specs.assembler.InstructionTexts.{slots}

-- an operand of a text, with its value in the instruction
pub data TextOperand : Type 0 where
  -- `x` and the number of a scalar register
  X : ℕ → TextOperand
  -- `v` and the number of a vector register
  V : ℕ → TextOperand
  -- the width in bits and the value of an unsigned number
  Unsigned : ℕ → ℕ → TextOperand
  -- the step, and the width in bits and the value of the number of steps, in two's complement
  Signed : ℕ → ℕ → ℕ → TextOperand
  -- a control register, by its name or its number
  ControlRegister : ℕ → TextOperand
  -- the width in bits and the value of vtype, which is written by the names of its fields or as a number
  VType : ℕ → ℕ → TextOperand
  -- `, v0.t`, or nothing if the instruction is not masked
  Mask : Bool → TextOperand

-- ---- vector operations with a row in "Vector Instruction Listing"

abbrev pub second : Bool → Source → TextOperand
second is_unsigned (source.V vs1) = V vs1
second is_unsigned (source.X rs1) = X rs1
second is_unsigned (source.I imm) = if is_unsigned then Unsigned 5 imm else Signed 1 5 imm

abbrev pub usual_operands : Bool → Source → ℕ → ℕ → Bool → List TextOperand
usual_operands is_unsigned source vd vs2 vm = V vd ∷ V vs2 ∷ second is_unsigned source ∷ Mask vm ∷ []

abbrev pub multiply_add_operands : Source → ℕ → ℕ → Bool → List TextOperand
multiply_add_operands source vd vs2 vm = V vd ∷ second false source ∷ V vs2 ∷ Mask vm ∷ []

abbrev pub carry_operands : Source → ℕ → ℕ → List TextOperand
carry_operands source vd vs2 = V vd ∷ V vs2 ∷ second false source ∷ []

abbrev pub arith_operands : VectorOp → Source → ℕ → ℕ → Bool → List TextOperand
arith_operands (vector_op.Binary op) source vd vs2 vm = usual_operands (has_unsigned_immediate op) source vd vs2 vm
arith_operands (vector_op.CarryOut op) source vd vs2 vm = carry_operands source vd vs2
arith_operands (vector_op.FixedPoint op) source vd vs2 vm = usual_operands (has_unsigned_shift op) source vd vs2 vm
arith_operands (vector_op.NarrowShift op) source vd vs2 vm = usual_operands true source vd vs2 vm
arith_operands (vector_op.Clip op) source vd vs2 vm = usual_operands true source vd vs2 vm
arith_operands (vector_op.MultiplyAdd op) source vd vs2 vm = multiply_add_operands source vd vs2 vm
arith_operands (vector_op.WidenMultiplyAdd op) source vd vs2 vm = multiply_add_operands source vd vs2 vm
arith_operands (vector_op.Permute op) source vd vs2 vm = usual_operands true source vd vs2 vm
arith_operands _ source vd vs2 vm = usual_operands false source vd vs2 vm

-- ---- every instruction, one equation for each layout

abbrev pub text_operands : Instr → List TextOperand
text_operands (instr.Scalar (Upper op rd imm)) = X rd ∷ Unsigned 20 imm ∷ []
text_operands (instr.Scalar (Jump rd imm)) = X rd ∷ Signed 2 20 imm ∷ []
text_operands (instr.Scalar (JumpRegister rd rs1 imm)) = X rd ∷ Signed 1 12 imm ∷ X rs1 ∷ []
text_operands (instr.Scalar (Branch op rs1 rs2 imm)) = X rs1 ∷ X rs2 ∷ Signed 2 12 imm ∷ []
text_operands (instr.Scalar (Load op rd rs1 imm)) = X rd ∷ Signed 1 12 imm ∷ X rs1 ∷ []
text_operands (instr.Scalar (Store op rs1 rs2 imm)) = X rs2 ∷ Signed 1 12 imm ∷ X rs1 ∷ []
text_operands (instr.Scalar (RegisterImmediate op rd rs1 imm)) = X rd ∷ X rs1 ∷ Signed 1 12 imm ∷ []
text_operands (instr.Scalar (ShiftImmediate op rd rs1 shamt)) = X rd ∷ X rs1 ∷ Unsigned 6 shamt ∷ []
text_operands (instr.Scalar (ShiftImmediateWord op rd rs1 shamt)) = X rd ∷ X rs1 ∷ Unsigned 5 shamt ∷ []
text_operands (instr.Scalar (RegisterRegister op rd rs1 rs2)) = X rd ∷ X rs1 ∷ X rs2 ∷ []
text_operands (instr.Scalar (Fence rd rs1 ordering)) = []
text_operands (instr.Scalar (System op)) = []
text_operands (instr.Csr (Register op rd rs1 csr)) = X rd ∷ ControlRegister csr ∷ X rs1 ∷ []
text_operands (instr.Csr (Immediate op rd imm csr)) = X rd ∷ ControlRegister csr ∷ Unsigned 5 imm ∷ []
text_operands (instr.Vector (SetVli rd rs1 vtype)) = X rd ∷ X rs1 ∷ VType 11 vtype ∷ []
text_operands (instr.Vector (SetIvli rd avl vtype)) = X rd ∷ Unsigned 5 avl ∷ VType 10 vtype ∷ []
text_operands (instr.Vector (SetVl rd rs1 rs2)) = X rd ∷ X rs1 ∷ X rs2 ∷ []
text_operands (instr.Vector (Arith arith vd vs2 vm)) = arith_operands arith.0 arith.1 vd vs2 vm
text_operands (instr.Vector (Carry carry vd vs2)) = carry_operands carry.1 vd vs2
text_operands (instr.Vector (Move source vd)) = V vd ∷ second false source ∷ []
text_operands (instr.Vector (WholeMove count vd vs2)) = V vd ∷ V vs2 ∷ []
text_operands (instr.Vector (MaskLogic op vd vs1 vs2)) = V vd ∷ V vs2 ∷ V vs1 ∷ []
text_operands (instr.Vector (Compress vd vs1 vs2)) = V vd ∷ V vs2 ∷ V vs1 ∷ []
text_operands (instr.Vector (MaskToScalar op rd vs2 vm)) = X rd ∷ V vs2 ∷ Mask vm ∷ []
text_operands (instr.Vector (Extend op vd vs2 vm)) = V vd ∷ V vs2 ∷ Mask vm ∷ []
text_operands (instr.Vector (MaskUnary op vd vs2 vm)) = V vd ∷ V vs2 ∷ Mask vm ∷ []
text_operands (instr.Vector (ElementIndex vd vm)) = V vd ∷ Mask vm ∷ []
text_operands (instr.Vector (MoveToScalar rd vs2)) = X rd ∷ V vs2 ∷ []
text_operands (instr.Vector (MoveToVector vd rs1)) = V vd ∷ X rs1 ∷ []
text_operands (instr.Access (UnitStride op width nf vd rs1 vm)) = V vd ∷ X rs1 ∷ Mask vm ∷ []
text_operands (instr.Access (Strided op width nf vd rs1 rs2 vm)) = V vd ∷ X rs1 ∷ X rs2 ∷ Mask vm ∷ []
text_operands (instr.Access (Indexed op order width nf vd rs1 vs2 vm)) = V vd ∷ X rs1 ∷ V vs2 ∷ Mask vm ∷ []
text_operands (instr.Access (WholeLoad count width vd rs1)) = V vd ∷ X rs1 ∷ []
text_operands (instr.Access (WholeStore count vd rs1)) = V vd ∷ X rs1 ∷ []
text_operands (instr.Access (MaskAccess op vd rs1)) = V vd ∷ X rs1 ∷ []

-- ---- the law that the slots hold these operands

-- the operand that a slot has in a word; punctuation has none
abbrev pub operand_in : ℕ → Slot → List TextOperand
operand_in word (slot.Scalar place) = X (value_of (slot.Scalar place) word) ∷ []
operand_in word (slot.Vector place) = V (value_of (slot.Vector place) word) ∷ []
operand_in word (slot.Unsigned field) = Unsigned (bit_count (slot.Unsigned field)) (value_of (slot.Unsigned field) word) ∷ []
operand_in word (slot.Signed field) = Signed (scale field) (bit_count (slot.Signed field)) (value_of (slot.Signed field) word) ∷ []
operand_in word slot.Csr = ControlRegister (value_of slot.Csr word) ∷ []
operand_in word slot.VectorType = VType 11 (value_of slot.VectorType word) ∷ []
operand_in word slot.ShortVectorType = VType 10 (value_of slot.ShortVectorType word) ∷ []
operand_in word slot.Mask = Mask (value_of slot.Mask word == 1) ∷ []
operand_in word _ = []

-- The slots of a word's instruction hold the instruction's fields.
abbrev pub SlotsHoldOperands : Type 0
SlotsHoldOperands = (word : ℕ) → IfSome (scan table word) (λ i. flat_map (operand_in word) (slots i) ≡ text_operands i)

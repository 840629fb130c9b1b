-- The destination elements that a vector operation may change if it neither loads nor stores ("V" Vector Extension 1.0, sections 3.4.3 and
-- 5.4), and the law that a step changes no others.
use Rattle.std.specs.Prelude.{ℕ, ◌≡◌, ◌-◌, ◌*◌, ◌/◌, ◌==◌, ◌<◌, ◌≤◌, ◌⊎◌, ◌&&◌, ◌||◌, nat_le, nat_lt, Bool, true, false, Option, Some, None, List, [], length, find, slice_index}
use Rattle.std.specs.Option.{option_map_or, unwrap_or}
use Rattle.rv_model.specs.declared.instructions.instruction.Instr.TheVariants as instr
use Rattle.rv_model.specs.declared.instructions.operations.MaskUnaryOp.TheVariants.{Scan}
use Rattle.rv_model.specs.declared.instructions.operations.VectorOp.{VectorOp}
use Rattle.rv_model.specs.declared.instructions.operations.VectorOp.TheVariants.{CarryOut, Compare, Reduce, WidenReduce}
use Rattle.rv_model.specs.declared.instructions.vector.VectorInstr.{VectorInstr}
use Rattle.rv_model.specs.declared.instructions.vector.VectorInstr.TheVariants.{Arith, WholeMove, MaskLogic, Compress, MaskUnary, MoveToVector}
use Rattle.rv_model.specs.declared.legality.Operand.{Operand}
use Rattle.rv_model.specs.declared.legality.Role.{Role}
use Rattle.rv_model.specs.declared.legality.Role.TheVariants.{Write, Apart, Free}
use Rattle.rv_model.specs.declared.vector.policy.Policy.{Policy}
use Rattle.rv_model.specs.declared.vector.sizes.TheConstants.{FILE_BYTES, VLEN, VLENB}
use Rattle.rv_model.specs.declared.vector.types.VType.{VType}
use Rattle.rv_model.specs.elements.Arithmetic.{fills_masked_off, fills_tail}
use Rattle.rv_model.specs.elements.Bodies.{operation_body}
use Rattle.rv_model.specs.elements.Elements.{Body, in_range, is_active, is_changed, mask_bit}
use Rattle.rv_model.specs.legality.Legality.{operands}
use Rattle.rv_model.specs.legality.RegisterOperands.{eew, end}
use Rattle.rv_model.specs.step.Hart.{HartState}
use Rattle.rv_model.specs.step.Step.{fetched, step}

-- ---- the destination

-- whether an instruction writes the registers of an operand
abbrev pub is_destination : Role → Bool
is_destination Write = true
is_destination Apart = true
is_destination Free = true
is_destination _ = false

-- the first destination among operands
abbrev pub written_of : List Operand → Option Operand
written_of os = find (λ o. is_destination o.role) os

-- the destination of an operation under a vector type, if it writes vector registers
abbrev pub destination_of : VectorInstr → Option VType → Option Operand
destination_of i t = written_of (unwrap_or (operands (instr.Vector i) t) [])

-- ---- the indices of its elements that may change

-- the active elements, and the elements that become all ones
abbrev pub changes_each : VType → Policy → Body → ℕ → Bool
changes_each t policy b e = is_changed b (fills_masked_off policy t b) (fills_tail policy t b) e

-- element 0, and the tail after it if the tail becomes all ones; no elements if the body is empty
abbrev pub changes_first : VType → Policy → Body → ℕ → Bool
changes_first t policy b e = nat_lt b.start b.end && (e == 0 || fills_tail policy t b)

-- the elements below vl, because vcompress packs at most vl elements, and the tail if it becomes all ones
abbrev pub changes_packed : VType → Policy → Body → ℕ → Bool
changes_packed t policy b e = nat_lt e b.end || (fills_tail policy t b && nat_le b.end e)

-- the elements that an operation of the funct6 table may change; elements of a mask never become all ones
abbrev pub arith_changes : VectorOp → VType → Policy → Body → ℕ → Bool
arith_changes (Compare op) t policy b e = is_active b e
arith_changes (CarryOut op) t policy b e = is_active b e
arith_changes (Reduce op) t policy b e = changes_first t policy b e
arith_changes (WidenReduce op) t policy b e = changes_first t policy b e
arith_changes _ t policy b e = changes_each t policy b e

-- the same for any operation
abbrev pub changes : VectorInstr → VType → Policy → Body → ℕ → Bool
changes (Arith arith vd vs2 vm) t policy b e = arith_changes arith.0 t policy b e
changes (MaskLogic op vd vs1 vs2) t policy b e = is_active b e
changes (MaskUnary (Scan op) vd vs2 vm) t policy b e = is_active b e
changes (WholeMove count vd vs2) t policy b e = is_changed b false false e
changes (MoveToVector vd rs1) t policy b e = changes_first t policy b e
changes (Compress vd vs1 vs2) t policy b e = changes_packed t policy b e
changes _ t policy b e = changes_each t policy b e

-- the same in a state; no elements if the state has no vector type
abbrev pub changes_in : HartState → VectorInstr → ℕ → Bool
changes_in s i e = option_map_or (λ t. changes i t s.policy (operation_body i t s.vector) e) s.vector.conf.vtype false

-- ---- the bits of the register file

-- the index of the element of an operand that holds a bit of the register file
abbrev pub element_at : Operand → ℕ → ℕ
element_at o n = (n - VLEN * o.first) / eew o.content

-- whether a bit of the register file belongs to a selected element of an operand
abbrev pub is_of : Operand → (ℕ → Bool) → ℕ → Bool
is_of o selected n = in_range (VLEN * o.first) (VLEN * end o) n && selected (element_at o n)

-- The register file `new` has the size of `old` and differs from it at most in the selected elements of an operand. No byte outside the
-- operand's registers differs, and no bit of another element.
pub record DiffersIn (o : Operand) (selected : ℕ → Bool) (old new : List ℕ) : Type 0 where
  pub size : length new ≡ length old
  pub outside : (k : ℕ) → (k < VLENB * o.first) ⊎ (VLENB * end o ≤ k) → slice_index new k ≡ slice_index old k
  pub elements : (n : ℕ) → is_of o selected n ≡ false → mask_bit new n ≡ mask_bit old n

-- the same for an optional operand; if there is none, the two files are equal
abbrev pub DiffersAtMost : Option Operand → (ℕ → Bool) → List ℕ → List ℕ → Type 0
DiffersAtMost None selected old new = new ≡ old
DiffersAtMost (Some o) selected old new = DiffersIn o selected old new

-- A step whose instruction is a vector operation changes no byte of the vector registers outside its destination, and no element of the
-- destination outside `changes`. This holds whether or not the instruction is legal.
abbrev pub StepsKeepOthers : Type 0
StepsKeepOthers = (limit : ℕ) (i : VectorInstr) (s : HartState) → length s.vector.file ≡ FILE_BYTES
    → fetched s.memory s.scalar.pc ≡ Some (instr.Vector i)
    → DiffersAtMost (destination_of i s.vector.conf.vtype) (changes_in s i) s.vector.file (step limit s).state.vector.file

-- The elements that the policy `ones` fills and the policy `keep` leaves, for each vector operation, and their overlay: ones in some of them,
-- written after the instruction ("V" Vector Extension 1.0, sections 3.4.3, 5.4, 14, 16.1 and 16.5).
use Rattle.std.specs.Prelude.{ℕ, ◌≡◌, ◌&&◌, ◌||◌, not, nat_le, Bool, true, false, Option, Some, None, List, length}
use Rattle.std.specs.Option.{option_and_then, option_map_or}
use Rattle.std.specs.Int.{Width}
use Rattle.rv_model.specs.declared.instructions.instruction.Instr.{Instr}
use Rattle.rv_model.specs.declared.instructions.instruction.Instr.TheVariants as instr
use Rattle.rv_model.specs.declared.instructions.operations.MaskUnaryOp.TheVariants.{Viota}
use Rattle.rv_model.specs.declared.instructions.operations.VectorOp.{VectorOp}
use Rattle.rv_model.specs.declared.instructions.operations.VectorOp.TheVariants.{CarryOut, Compare, Widen, WideSource, WidenMultiplyAdd, Reduce, WidenReduce, Permute}
use Rattle.rv_model.specs.declared.instructions.source.Source.{Source}
use Rattle.rv_model.specs.declared.instructions.vector.VectorInstr.{VectorInstr}
use Rattle.rv_model.specs.declared.instructions.vector.VectorInstr.TheVariants.{Arith, Carry, Move, Compress, Extend, MaskUnary, ElementIndex, MoveToVector}
use Rattle.rv_model.specs.declared.scalar.Scalar.{Scalar}
use Rattle.rv_model.specs.declared.step.step_end.StepEnd.{StepEnd}
use Rattle.rv_model.specs.declared.step.step_end.StepEnd.TheVariants.{Ran}
use Rattle.rv_model.specs.declared.vector.policy.Policy.TheVariants as policy
use Rattle.rv_model.specs.declared.vector.sizes.TheConstants.{FILE_BYTES}
use Rattle.rv_model.specs.declared.vector.types.VType.{VType}
use Rattle.rv_model.specs.elements.Arithmetic.{fills_masked_off, fills_tail}
use Rattle.rv_model.specs.elements.Bodies.{operation_body}
use Rattle.rv_model.specs.elements.Elements.{Body, in_body, is_enabled, written}
use Rattle.rv_model.specs.elements.Formulas.{ones}
use Rattle.rv_model.specs.elements.PermutationResults.{permute_body}
use Rattle.rv_model.specs.lending.Writes.{element_zero}
use Rattle.rv_model.specs.step.Hart.{HartState}
use Rattle.rv_model.specs.step.Step.{step}
use Rattle.rv_model.specs.vector.Groups.{GroupType, group_of, group_type, single_type, wide_type, width_bytes, with_group}
use Rattle.open_choices.specs.OpenStep.{IsOpenStep, file_under, instr_at, with_choices}

-- ---- what an instruction may fill

-- The group from the register `first` on. Two flags say whether the masked-off elements of a body are filled, and the elements from its end
-- on.
pub record Fill : Type 0 where
  pub group : GroupType
  pub first : ℕ
  pub body : Body
  pub masked_off : Bool
  pub tail : Bool

-- whether element i is masked off or in the tail, as two flags ask
abbrev pub is_open : Body → Bool → Bool → ℕ → Bool
is_open b masked_off tail i = (masked_off && (in_body b i && not (is_enabled b i))) || (tail && nat_le b.end i)

-- whether element i is filled
abbrev pub is_filled : Fill → ℕ → Bool
is_filled f i = is_open f.body f.masked_off f.tail i

-- the fill of an instruction that writes an element for each active one of its body
abbrev pub each_fill : VType → GroupType → ℕ → Body → Fill
each_fill t g vd b =
    record { group = g; first = vd; body = b; masked_off = fills_masked_off policy.Ones t b; tail = fills_tail policy.Ones t b }

-- of one that writes element 0 alone: the tail begins at element 1
abbrev pub first_fill : VType → Width → ℕ → Body → Fill
first_fill t width vd b =
    record { group = single_type width; first = vd; body = element_zero b; masked_off = false; tail = fills_tail policy.Ones t b }

-- of vcompress: the tail begins at vl, and no element of the body is masked off
abbrev pub packed_fill : VType → ℕ → Body → Fill
packed_fill t vd b =
    record { group = group_type t; first = vd; body = b; masked_off = false; tail = fills_tail policy.Ones t b }

-- of an operation of the funct6 table, applied to a body; None if it writes a mask
abbrev pub arith_fill : VectorOp → Source → ℕ → Body → VType → Scalar → Option Fill
arith_fill (Compare op) from vd b t x = None
arith_fill (CarryOut op) from vd b t x = None
arith_fill (Widen op) from vd b t x = Some (each_fill t (wide_type t) vd b)
arith_fill (WideSource op) from vd b t x = Some (each_fill t (wide_type t) vd b)
arith_fill (WidenMultiplyAdd op) from vd b t x = Some (each_fill t (wide_type t) vd b)
arith_fill (Reduce op) from vd b t x = Some (first_fill t (group_type t).width vd b)
arith_fill (WidenReduce op) from vd b t x = Some (first_fill t (wide_type t).width vd b)
arith_fill (Permute op) from vd b t x = Some (record (each_fill t (group_type t) vd b) { body = permute_body op from x b })
arith_fill _ from vd b t x = Some (each_fill t (group_type t) vd b)

-- of any operation, applied to a body
abbrev pub typed_fill : VectorInstr → Body → VType → Scalar → Option Fill
typed_fill (Arith arith vd vs2 vm) b t x = arith_fill arith.0 arith.1 vd b t x
typed_fill (Carry carry vd vs2) b t x = Some (each_fill t (group_type t) vd b)
typed_fill (Move from vd) b t x = Some (each_fill t (group_type t) vd b)
typed_fill (Extend op vd vs2 vm) b t x = Some (each_fill t (group_type t) vd b)
typed_fill (MaskUnary Viota vd vs2 vm) b t x = Some (each_fill t (group_type t) vd b)
typed_fill (ElementIndex vd vm) b t x = Some (each_fill t (group_type t) vd b)
typed_fill (Compress vd vs1 vs2) b t x = Some (packed_fill t vd b)
typed_fill (MoveToVector vd rs1) b t x = Some (first_fill t (group_type t).width vd b)
typed_fill _ b t x = None

-- of the instruction that is executed from a state; None unless it is a vector operation with a vector type
abbrev pub fill_of : Option Instr → HartState → Option Fill
fill_of (Some (instr.Vector i)) s =
    option_and_then (λ t. typed_fill i (operation_body i t s.vector) t s.scalar) s.vector.conf.vtype
fill_of _ s = None

-- an instruction that doesn't retire fills nothing
abbrev pub if_ran : StepEnd → Option Fill → Option Fill
if_ran Ran f = f
if_ran _ f = None

abbrev pub fill_at : HartState → Option Fill
fill_at s = if_ran (step 256 s).end (fill_of (instr_at s) s)

-- ---- the overlay

-- the registers after some elements of a fill's group become all ones
abbrev pub with_ones : Fill → (ℕ → Bool) → List ℕ → List ℕ
with_ones f taken file =
    with_group file f.first
    (written (width_bytes f.group.width) taken (λ i. ones f.group.width) (group_of file f.first f.group.emul))

-- the registers after the step, with ones in the elements of its fill that are taken
abbrev pub overlaid : HartState → (ℕ → Bool) → List ℕ
overlaid s taken =
    let file = (step 256 s).state.vector.file in
    option_map_or (λ f. with_ones f (λ i. is_filled f i && taken i) file) (fill_at s) file

-- the state after the step with this overlay
abbrev pub chosen : HartState → (ℕ → Bool) → HartState
chosen s taken = with_choices s (overlaid s taken) (step 256 s).state.vector.conf.vl

-- ---- laws

-- Whatever elements are taken, the standard allows the state.
abbrev pub ChosenIsOpen : Type 0
ChosenIsOpen = (s : HartState) (taken : ℕ → Bool) → s.policy ≡ policy.Keep → length s.vector.file ≡ FILE_BYTES → IsOpenStep s (chosen s taken)

-- If none is taken, the state is that of the step.
abbrev pub NoneChosen : Type 0
NoneChosen = (s : HartState) (taken : ℕ → Bool) → s.policy ≡ policy.Keep → length s.vector.file ≡ FILE_BYTES → ((i : ℕ) → taken i ≡ false)
    → chosen s taken ≡ (step 256 s).state

-- If all are taken, the registers after a vector operation are those under the policy `ones`.
abbrev pub AllChosen : Type 0
AllChosen = (s : HartState) (i : VectorInstr) (taken : ℕ → Bool) → s.policy ≡ policy.Keep → length s.vector.file ≡ FILE_BYTES
    → instr_at s ≡ Some (instr.Vector i) → ((e : ℕ) → taken e ≡ true) → overlaid s taken ≡ file_under policy.Ones s

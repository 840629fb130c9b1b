-- The vector registers after an arithmetic instruction ("V" Vector Extension 1.0, sections 3.4.3, 5.4 and chapters 11, 12, 14 and 15). The
-- operands are from the state before the instruction.
use Rattle.std.specs.Prelude.{ℕ, ◌%◌, ◌^◌, ◌==◌, ◌&&◌, ◌||◌, not, nat_lt, Bool, true, false, List, if◌then◌else◌}
use Rattle.std.specs.Int.{Width}
use mir.Val.{bits}
use Rattle.rv_model.specs.instructions.Types.{BinaryOp, CarryOp, CarryOutOp, ClipOp, CompareOp, ExtendOp, FixedPointOp, MaskLogicOp, MultiplyAddOp, NarrowShiftOp, ReduceOp, WidenOp, WideSourceOp, WidenMultiplyAddOp, WidenReduceOp, Source}
use Rattle.rv_model.specs.vector.Types.{Policy, RoundingMode, VType}
use Rattle.rv_model.specs.declared.vector.state.VState.{VState}
use Rattle.rv_model.specs.declared.vector.policy.Policy.TheVariants.{Keep, Ones}
use Rattle.rv_model.specs.declared.scalar.Scalar.{Scalar}
use Rattle.rv_model.specs.declared.instructions.source.Source.TheVariants as source
use Rattle.rv_model.specs.elements.Elements.{Body, element, is_active, is_changed, mask_bit, result_or_ones, written, written_bits}
use Rattle.rv_model.specs.vector.Groups.{group_of, with_group, register_of, GroupType, width_bytes, single_type}
use Rattle.rv_model.specs.scalar.Registers.{read_register}
use Rattle.rv_model.specs.elements.Formulas.{carry_formula, carry_out_formula, compare_formula, extend_formula, formula, has_unsigned_immediate, immediate_value, multiply_add_formula, narrow_shift_formula, ones, wide_source_formula, widen_formula, widen_multiply_add_formula, wrap}
use Rattle.rv_model.specs.elements.FixedPoint.{clip_formula, clip_saturates, fixed_point_formula, has_unsigned_shift, saturates}
use Rattle.rv_model.specs.elements.Masks.{mask_logic_formula, set_count}
use Rattle.rv_model.specs.elements.Reductions.{active_numbers, combining, reduced, widening_combining}

abbrev pub is_ones : Policy → Bool
is_ones Keep = false
is_ones Ones = true

-- the body of an instruction in a vector state; v0 is the mask
abbrev pub body_of : Bool → VState → Body
body_of unmasked v = record { unmasked = unmasked; mask = register_of v.file 0; start = v.vstart; end = v.conf.vl }

-- whether masked-off elements become all ones
abbrev pub fills_masked_off : Policy → VType → Body → Bool
fills_masked_off policy t body = is_ones policy && (t.mask_agnostic && not body.unmasked)

-- whether the elements from vl on become all ones; they don't if the body is empty
abbrev pub fills_tail : Policy → VType → Body → Bool
fills_tail policy t body = is_ones policy && (t.tail_agnostic && nat_lt body.start body.end)

-- element i of the register group that starts at the register `first`
abbrev pub group_element : GroupType → List ℕ → ℕ → ℕ → ℕ
group_element g file first i = element (width_bytes g.width) (group_of file first g.emul) i

-- element i of the second operand: of vs1; or for each i the low bits of x[rs1], or of the immediate
abbrev pub second_element : GroupType → Bool → Source → List ℕ → Scalar → ℕ → ℕ
second_element g unsigned (source.V vs1) file x i = group_element g file vs1 i
second_element g unsigned (source.X rs1) file x i = read_register x rs1 % 2 ^ bits g.width
second_element g unsigned (source.I imm) file x i = immediate_value unsigned imm % 2 ^ bits g.width

-- ---- the result at element i, from the registers before the instruction

abbrev pub binary_result : GroupType → BinaryOp → ℕ → Source → List ℕ → Scalar → ℕ → ℕ
binary_result g op vs2 source file x i =
    wrap g.width (formula op g.width (group_element g file vs2 i) (second_element g (has_unsigned_immediate op) source file x i))

abbrev pub multiply_add_result : GroupType → MultiplyAddOp → ℕ → ℕ → Source → List ℕ → Scalar → ℕ → ℕ
multiply_add_result g op vd vs2 source file x i =
    wrap g.width (multiply_add_formula op (group_element g file vs2 i) (second_element g false source file x i) (group_element g file vd i))

abbrev pub carry_result : GroupType → CarryOp → ℕ → Source → List ℕ → Scalar → ℕ → ℕ
carry_result g op vs2 source file x i =
    wrap g.width (carry_formula op (group_element g file vs2 i) (second_element g false source file x i) (mask_bit (register_of file 0) i))

abbrev pub compare_result : GroupType → CompareOp → ℕ → Source → List ℕ → Scalar → ℕ → Bool
compare_result g op vs2 source file x i =
    compare_formula op g.width (group_element g file vs2 i) (second_element g false source file x i)

-- the carry-in or borrow-in is the element's bit in v0, unless `alone` is set
abbrev pub carry_out_result : GroupType → CarryOutOp → Bool → ℕ → Source → List ℕ → Scalar → ℕ → Bool
carry_out_result g op alone vs2 source file x i =
    carry_out_formula op g.width (group_element g file vs2 i) (second_element g false source file x i) (not alone && mask_bit (register_of file 0) i)

-- ---- the result at element i, for operands of two widths; n is the type of the narrow groups, w that of the wide ones

abbrev pub widen_result : GroupType → GroupType → WidenOp → ℕ → Source → List ℕ → Scalar → ℕ → ℕ
widen_result n w op vs2 source file x i =
    wrap w.width (widen_formula op n.width (group_element n file vs2 i) (second_element n false source file x i))

abbrev pub wide_source_result : GroupType → GroupType → WideSourceOp → ℕ → Source → List ℕ → Scalar → ℕ → ℕ
wide_source_result n w op vs2 source file x i =
    wrap w.width (wide_source_formula op w.width n.width (group_element w file vs2 i) (second_element n false source file x i))

abbrev pub widen_multiply_add_result : GroupType → GroupType → WidenMultiplyAddOp → ℕ → ℕ → Source → List ℕ → Scalar → ℕ → ℕ
widen_multiply_add_result n w op vd vs2 source file x i =
    wrap w.width
    (widen_multiply_add_formula op n.width (group_element n file vs2 i) (second_element n false source file x i) (group_element w file vd i))

abbrev pub narrow_shift_result : GroupType → GroupType → NarrowShiftOp → ℕ → Source → List ℕ → Scalar → ℕ → ℕ
narrow_shift_result n w op vs2 source file x i =
    wrap n.width (narrow_shift_formula op w.width (group_element w file vs2 i) (second_element n true source file x i))

abbrev pub extend_result : GroupType → GroupType → ExtendOp → ℕ → List ℕ → ℕ → ℕ
extend_result n w op vs2 file i = wrap w.width (extend_formula op n.width (group_element n file vs2 i))

-- ---- fixed point: the result at element i, and whether it differs from the exact number

abbrev pub fixed_point_result : GroupType → RoundingMode → FixedPointOp → ℕ → Source → List ℕ → Scalar → ℕ → ℕ
fixed_point_result g mode op vs2 source file x i =
    wrap g.width
    (fixed_point_formula op mode g.width (group_element g file vs2 i) (second_element g (has_unsigned_shift op) source file x i))

abbrev pub saturates_at : GroupType → RoundingMode → FixedPointOp → ℕ → Source → List ℕ → Scalar → ℕ → Bool
saturates_at g mode op vs2 source file x i =
    saturates op mode g.width (group_element g file vs2 i) (second_element g (has_unsigned_shift op) source file x i)

-- n is the type of the narrow groups, w that of the wide ones
abbrev pub clip_result : GroupType → GroupType → RoundingMode → ClipOp → ℕ → Source → List ℕ → Scalar → ℕ → ℕ
clip_result n w mode op vs2 source file x i =
    wrap n.width (clip_formula op mode w.width n.width (group_element w file vs2 i) (second_element n true source file x i))

abbrev pub clip_saturates_at : GroupType → GroupType → RoundingMode → ClipOp → ℕ → Source → List ℕ → Scalar → ℕ → Bool
clip_saturates_at n w mode op vs2 source file x i =
    clip_saturates op mode w.width n.width (group_element w file vs2 i) (second_element n true source file x i)

-- ---- reductions: the result, whose initial value is element 0 of vs1

abbrev pub reduce_result : GroupType → ReduceOp → Body → ℕ → Source → List ℕ → Scalar → ℕ
reduce_result g op body vs2 source file x =
    reduced (formula (combining op) g.width) g.width (second_element (single_type g.width) false source file x 0)
    (active_numbers body (group_element g file vs2))

abbrev pub widen_reduce_result : GroupType → GroupType → WidenReduceOp → Body → ℕ → Source → List ℕ → Scalar → ℕ
widen_reduce_result n w op body vs2 source file x =
    reduced (wide_source_formula (widening_combining op) w.width n.width) w.width
    (second_element (single_type w.width) false source file x 0) (active_numbers body (group_element n file vs2))

-- ---- mask instructions: the result at element i

abbrev pub mask_logic_result : MaskLogicOp → ℕ → ℕ → List ℕ → ℕ → Bool
mask_logic_result op vs1 vs2 file i =
    mask_logic_formula op (mask_bit (register_of file vs2) i) (mask_bit (register_of file vs1) i)

abbrev pub iota_result : GroupType → Body → ℕ → List ℕ → ℕ → ℕ
iota_result g body vs2 file i = set_count body (register_of file vs2) i % 2 ^ bits g.width

abbrev pub index_result : GroupType → ℕ → ℕ
index_result g i = i % 2 ^ bits g.width

-- ---- the vector registers after results are written

-- results in the active elements of the group that starts at vd; the flags select which other elements become all ones
unfoldable pub with_results : GroupType → ℕ → Body → Bool → Bool → (ℕ → ℕ) → List ℕ → List ℕ
with_results g vd body fill_masked_off fill_tail result file =
    with_group file vd
    (written (width_bytes g.width) (is_changed body fill_masked_off fill_tail) (result_or_ones body result (ones g.width)) (group_of file vd g.emul))

-- a result in element 0 of the register vd; the flag selects whether the tail, which starts at element 1, becomes all ones. If the body is
-- empty, nothing changes.
unfoldable pub with_first_result : Width → ℕ → Body → Bool → ℕ → List ℕ → List ℕ
with_first_result width vd body fill_tail result file =
    with_group file vd
    (written (width_bytes width) (λ i. nat_lt body.start body.end && (i == 0 || fill_tail)) (λ i. if i == 0 then result else ones width)
    (group_of file vd 8))

-- results in the active bits of the mask in the register vd; no other bit changes
unfoldable pub with_mask_results : ℕ → Body → (ℕ → Bool) → List ℕ → List ℕ
with_mask_results vd body bit file = with_group file vd (written_bits (is_active body) bit (group_of file vd 8))

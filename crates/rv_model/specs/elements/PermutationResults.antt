-- The vector registers after a permutation ("V" Vector Extension 1.0, chapter 16). The operands are from the state before the instruction.
use Rattle.std.specs.Prelude.{ℕ, ◌+◌, ◌-◌, ◌%◌, ◌^◌, ◌==◌, Bool, List, max, if◌then◌else◌, ◌&&◌, ◌||◌, nat_le, nat_lt, length, map, slice_index}
use Rattle.std.specs.Int.{w16}
use mir.Val.{bits}
use Rattle.rv_model.specs.instructions.Types.{PermuteOp, Source}
use Rattle.rv_model.specs.declared.instructions.operations.PermuteOp.TheVariants.{Vrgatherei16, Vslideup, Vslidedown, Vslide1up, Vslide1down}
use Rattle.rv_model.specs.declared.instructions.source.Source.TheVariants as source
use Rattle.rv_model.specs.declared.scalar.Scalar.{Scalar}
use Rattle.rv_model.specs.vector.Types.{VType}
use Rattle.rv_model.specs.elements.Arithmetic.{group_element}
use Rattle.rv_model.specs.elements.Elements.{Body, mask_bit, written}
use Rattle.rv_model.specs.elements.Formulas.{ones}
use Rattle.rv_model.specs.vector.Groups.{single_type, with_width, GroupType, element_count, sew_bits, sew_width, width_bytes, group_of, with_group}
use Rattle.rv_model.specs.instructions.Immediates.{sign_extended}
use Rattle.rv_model.specs.scalar.Registers.{read_register}
use Rattle.std.specs.List.{filter, range_with_len}

-- gathers, and vslidedown: the element at an index, or 0 from the limit of the source on; the limit is VLMAX, not vl (sections 16.3.2 and
-- 16.4)
abbrev pub gathered : ℕ → (ℕ → ℕ) → ℕ → ℕ
gathered limit element index = if nat_lt index limit then element index else 0

-- vcompress: the elements below vl whose bit is set, in order (section 16.5)
abbrev pub packed : List ℕ → (ℕ → ℕ) → ℕ → List ℕ
packed select element end = map element (filter (mask_bit select) (range_with_len 0 end))

-- Whether element j of the destination changes; `end` is vl. The first elements receive the packed ones, and tail elements become all ones
-- if the flag is set. The elements between them are unchanged.
abbrev pub is_packed_or_filled : List ℕ → ℕ → Bool → ℕ → Bool
is_packed_or_filled numbers end fill_tail j = nat_lt j (length numbers) || (fill_tail && nat_le end j)

-- the new value of an element that changes: a packed one, or all ones
abbrev pub packed_or_ones : List ℕ → ℕ → ℕ → ℕ
packed_or_ones numbers ones j = if nat_lt j (length numbers) then slice_index numbers j else ones

-- ---- slides and gathers

-- the type of the group of vs1, from that of vs2
abbrev pub source_type : PermuteOp → GroupType → GroupType
source_type Vrgatherei16 g = with_width w16 g
source_type _ g = g

-- the scalar operand: all 64 bits of x[rs1], or the unsigned immediate
abbrev pub scalar_operand : Source → Scalar → ℕ
scalar_operand (source.V vs1) x = 0  -- excluded
scalar_operand (source.X rs1) x = read_register x rs1
scalar_operand (source.I imm) x = imm

-- the index that a gather uses for element i: an element of vs1, or the scalar operand
abbrev pub index_of : GroupType → Source → List ℕ → Scalar → ℕ → ℕ
index_of indices (source.V vs1) file x i = group_element indices file vs1 i
index_of indices from file x i = scalar_operand from x

-- the result at element i. A slide moves elements by the scalar operand (sections 16.3.1 and 16.3.2); the sum is an unbounded integer,
-- which never wraps. A slide by one inserts a number at element 0 or at the last element below vl (sections 16.3.3 and 16.3.5).
abbrev pub permute_result : GroupType → PermuteOp → ℕ → ℕ → Source → List ℕ → Scalar → ℕ → ℕ
permute_result g Vslideup vl vs2 source file x i = group_element g file vs2 (i - scalar_operand source x)
permute_result g Vslidedown vl vs2 source file x i =
    gathered (element_count g) (group_element g file vs2) (i + scalar_operand source x)
permute_result g Vslide1up vl vs2 source file x i =
    if i == 0 then scalar_operand source x % 2 ^ bits g.width else group_element g file vs2 (i - 1)
permute_result g Vslide1down vl vs2 source file x i =
    if i + 1 == vl then scalar_operand source x % 2 ^ bits g.width else group_element g file vs2 (i + 1)
-- gathers
permute_result g op vl vs2 source file x i =
    gathered (element_count g) (group_element g file vs2) (index_of (source_type op g) source file x i)

-- the elements of the instruction's body that it processes; vslideup leaves the elements below the offset unchanged
abbrev pub permute_body : PermuteOp → Source → Scalar → Body → Body
permute_body Vslideup source x body = record body { start = max body.start (scalar_operand source x) }
permute_body _ source x body = body

-- ---- vcompress

-- the registers with numbers in the first elements of the group that starts at vd; the flag selects whether the elements from vl on become
-- all ones
unfoldable pub with_packed : GroupType → ℕ → ℕ → Bool → List ℕ → List ℕ → List ℕ
with_packed g vd vl fill_tail numbers file =
    with_group file vd
    (written (width_bytes g.width) (is_packed_or_filled numbers vl fill_tail) (packed_or_ones numbers (ones g.width)) (group_of file vd g.emul))

-- ---- moves

-- the result of vmv.x.s, independent of vl and LMUL: element 0, sign-extended to 64 bits (section 16.1)
abbrev pub moved_to_scalar : VType → ℕ → List ℕ → ℕ
moved_to_scalar t vs2 file = sign_extended (sew_bits t.sew) (group_element (single_type (sew_width t.sew)) file vs2 0)

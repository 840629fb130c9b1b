-- Register operands as sets of register numbers, and their legal combinations in one instruction ("V" Vector Extension 1.0, sections
-- 3.4.2, 5.2, 5.3, 10.2 and 10.3). If both groups begin at the same register, they overlap in the lowest-numbered part of the source. If
-- both end at the same register, they overlap in the highest-numbered part of the destination.
use Rattle.std.specs.Prelude.{ℕ, ◌+◌, ◌*◌, ◌%◌, ◌<◌, ◌≤◌, Bool, true, false, ◌&&◌, ◌||◌, not, nat_lt, nat_le, ◌==◌, max, min, List, All, IsTrue}
use Rattle.std.specs.List.{list_all}
use Rattle.rv_model.specs.legality.Types.{Operand, Content, Mask, Elements, Role, Read, Control, Write, Apart}
use Rattle.rv_model.specs.vector.Types.{VECTOR_REGISTERS}
use Rattle.rv_model.specs.vector.Groups.{registers}

-- the effective element width in bits; a mask's is 1
abbrev pub eew : Content → ℕ
eew Mask = 1
eew (Elements w) = w

-- the register after an operand's last one
abbrev pub end : Operand → ℕ
end o = o.first + o.fields * registers o.emul

-- the two operands have a register in common
abbrev pub Overlap : Operand → Operand → Type 0
Overlap a b = (r : ℕ) × (((a.first ≤ r) × (r < end a)) × ((b.first ≤ r) × (r < end b)))

-- a mask, or elements of 8 to 64 bits
abbrev pub is_width : Content → Bool
is_width Mask = true
is_width (Elements w) = nat_le 8 w && nat_le w 64

-- a valid group: the multiplier is 1/8 to 8, and at most 8 for all fields together; the group is aligned, and ends inside the register
-- file
abbrev pub is_group : Operand → Bool
is_group o =
    is_width o.content
    && (nat_le 1 o.emul
    && (nat_le o.emul 64
    && (nat_le (o.emul * o.fields) 64
    && ((o.first % registers o.emul == 0)
    && nat_le (end o) VECTOR_REGISTERS))))

-- a destination may overlap three kinds of sources: one of its own element width; a wider one that begins at the same register; a
-- narrower one that has a multiplier of at least 1 and ends at the same register
abbrev pub may_overlap : Operand → Operand → Bool
may_overlap d s =
    (eew d.content == eew s.content)
    || ((nat_lt (eew d.content) (eew s.content) && (d.first == s.first))
    || (nat_lt (eew s.content) (eew d.content) && (nat_le 8 s.emul && (end d == end s))))

abbrev pub is_mask : Content → Bool
is_mask Mask = true
is_mask (Elements w) = false

-- whether two operands may overlap, by their roles in the instruction
abbrev pub may_share : Role → Role → Operand → Operand → Bool
may_share Write Read d s = may_overlap d s
may_share Write Control d v0 = is_mask d.content
may_share Apart Read d s = false
may_share Apart Control d v0 = false
may_share _ _ d s = true

-- these may be the operands of one instruction; `are_legal` tests the same
pub record AreLegal (operands : List Operand) : Type 0 where
  pub groups : All (λ o. IsTrue (is_group o)) operands
  pub pairs : All (λ d. All (λ s. Overlap d s → IsTrue (may_share d.role s.role d s)) operands) operands

-- ---- the tests; laws prove that they agree with `AreLegal` and its parts

abbrev pub overlaps : Operand → Operand → Bool
overlaps a b = nat_lt (max a.first b.first) (min (end a) (end b))

abbrev pub allows : Operand → Operand → Bool
allows d s = not (overlaps d s) || may_share d.role s.role d s

unfoldable pub are_legal : List Operand → Bool
are_legal operands = list_all is_group operands && list_all (λ d. list_all (allows d) operands) operands

-- The group that a machine prepares for an overlay, as a fill.
use Rattle.std.specs.Prelude.{ℕ, ◌+◌, ◌&&◌, not, nat_le, Bool, true, false, List, Option, if◌then◌else◌}
use Rattle.std.specs.Option.{option_map_or}
use Rattle.std.specs.Int.{Width}
use Rattle.rv_model.specs.declared.vector.types.Sew.{Sew}
use Rattle.rv_model.specs.declared.vector.types.VType.{VType}
use Rattle.rv_model.specs.vector.Groups.{GroupType, doubled, group_type, registers, sew_width, wide_type}
use Rattle.open_choices.specs.declared.open_group.OpenGroup.{OpenGroup}
use Rattle.open_choices.specs.declared.seeds.Kinds.{Kinds}
use Rattle.rv_model.specs.declared.vector.types.Sew.TheVariants.{E64}
use Rattle.rv_model.specs.declared.vector.sizes.TheConstants.{GROUP_BYTES, VECTOR_REGISTERS}
use Rattle.open_choices.specs.Fills.{Fill, is_filled, with_ones}

-- the width of an element, or twice this width
abbrev pub width_or_twice : Bool → Sew → Width
width_or_twice wide sew = if wide then doubled (sew_width sew) else sew_width sew

-- the groups of a vector type, or those of elements of twice the width
abbrev pub type_or_wide : Bool → VType → GroupType
type_or_wide wide t = if wide then wide_type t else group_type t

-- the fill that a prepared group describes
abbrev pub fill_of_group : OpenGroup → Fill
fill_of_group o =
    record {
      group = record { width = width_or_twice o.wide o.sew; emul = o.emul };
      first = o.first;
      body = record { unmasked = o.unmasked; mask = o.mask; start = o.start; end = o.end };
      masked_off = o.masked_off;
      tail = o.tail;
    }

-- a group that is open only to choices of these kinds
abbrev pub limited : OpenGroup → Kinds → OpenGroup
limited o k = record o { masked_off = o.masked_off && k.masked; tail = o.tail && k.tail }

abbrev pub is_widest : Sew → Bool
is_widest E64 = true
is_widest _ = false

-- whether the group lies inside the registers, and its elements are as wide as those of a machine; the group of each legal instruction does
abbrev pub is_ready : OpenGroup → Bool
is_ready o =
    nat_le (o.first + registers o.emul) VECTOR_REGISTERS
    && (nat_le o.emul 64 && (nat_le o.end GROUP_BYTES && not (o.wide && is_widest o.sew)))

-- the registers after the chosen elements of a prepared group became ones, if there is a group
abbrev pub with_choices_of : Option OpenGroup → (ℕ → Bool) → List ℕ → List ℕ
with_choices_of o taken file =
    option_map_or (λ g. with_ones (fill_of_group g) (λ i. is_filled (fill_of_group g) i && taken i) file) o file

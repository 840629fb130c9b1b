-- Facts about groups, for the tactics, from a legal instruction and a vector length that its vector type allows.
use Rattle.std.proofs.Common.{arith}
use Rattle.std.proofs.Math.Bool.{or-false}
use Rattle.rv_model.specs.declared.vector.types.VType.{VType}
use Rattle.rv_model.specs.lending.GroupBounds.{HasRoom}
use Rattle.rv_model.specs.vector.Groups.{lmul_eighths, sew_width, vlmax}
use Rattle.rv_model.proofs.legality_lemmas.Bounds.{
  carry_inside,
  extension_inside,
  index_inside,
  groups_have_room,
  groups_hold_body,
  iota_inside,
  length_below,
  length_fits,
  move_inside,
  multiplier_fits,
  part_groups_have_room,
  wide_groups_have_room,
  wide_groups_hold_body,
  multiply_add_inside,
  compare_inside,
  carry_out_inside,
  widen_inside,
  wide_source_inside,
  widen_multiply_add_inside,
  narrow_shift_inside,
  fixed_point_inside,
  clip_inside,
  reduce_inside,
  widen_reduce_inside,
  permute_inside,
}
use Rattle.rv_model.proofs.legality_lemmas.Moves.{compress_inside, whole_move_inside}

-- groups of the vector type have room for all their elements
pub all_have_room : (t : VType) → HasRoom (sew_width t.sew) (lmul_eighths t.lmul) (vlmax t)
all_have_room t = record { most = multiplier_fits t.lmul; room = length_fits t (vlmax t) (omega arith) }

-- operations of the funct6 table, except those on two operands of the same width; most never saturate
pub ruleset operation_groups =
    (or-false, multiply_add_inside, compare_inside, carry_out_inside, widen_inside, wide_source_inside, widen_multiply_add_inside, narrow_shift_inside, fixed_point_inside, clip_inside, reduce_inside, widen_reduce_inside, permute_inside, all_have_room)

-- operations outside of the funct6 table that need a vector type; an extension never saturates
pub ruleset typed_groups =
    (or-false, carry_inside, move_inside, extension_inside, index_inside, length_below, compress_inside, whole_move_inside)

-- operations on a mask
pub ruleset mask_groups = (length_below, iota_inside)

-- a destination or a source of twice the width
pub ruleset wide_groups = (wide_groups_have_room, groups_have_room, length_below)

-- a source with a half, a quarter or an eighth of the width
pub ruleset extended_groups = (groups_have_room, part_groups_have_room, length_below)

-- a source whose elements are reduced to one
pub ruleset reduced_groups = (groups_have_room, length_below)

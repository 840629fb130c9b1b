-- Segments of legal loads and stores have room in the registers.
use Rattle.std.proofs.Common.{◌≡◌, ℕ, ◌+◌, ◌*◌, ◌≤◌, arith}
use Rattle.rv_model.specs.declared.instructions.operations.RegisterCount.{RegisterCount}
use Rattle.rv_model.specs.declared.instructions.operations.RegisterCount.TheVariants.{One}
use Rattle.rv_model.specs.declared.instructions.operations.Eew.{Eew}
use Rattle.rv_model.specs.declared.instructions.operations.Eew.TheVariants as width
use Rattle.rv_model.specs.declared.vector.sizes.TheConstants.{VECTOR_REGISTERS, VLENB}
use Rattle.rv_model.specs.declared.vector.types.Sew.{Sew}
use Rattle.rv_model.specs.declared.vector.types.Sew.TheVariants.{E8}
use Rattle.rv_model.specs.accesses.VectorAccess.{whole_length}
use Rattle.rv_model.specs.vector.Groups.{element_width, sew_width, width_bytes, register_count}
use Rattle.vector_memory.specs.SegmentRoom.{HasRoom}
use Rattle.vector_memory.specs.declared.segments.Segments.{Segments}

pub element_most : (s : Sew) → width_bytes (sew_width s) ≤ 8
element_most E8 = omega arith
element_most _ = omega arith

whole_fits : (count : RegisterCount) (w : Eew) → width_bytes (sew_width (element_width w)) * whole_length count w ≤ VLENB * register_count count
whole_fits One width.E8 = omega arith
whole_fits _ width.E8 = omega arith
whole_fits _ _ = omega arith

-- segments in whole registers have room
pub whole_room : (s : Segments) (count : RegisterCount) (w : Eew) (vd : ℕ) → vd + register_count count ≤ VECTOR_REGISTERS
    → s ≡ record { fields = 1; size = width_bytes (sew_width (element_width w)); register = vd; field_registers = register_count count }
    → HasRoom s (whole_length count w)
whole_room s count w vd inside is =
    rw is
    (record {
      fields = omega arith;
      size = element_most (element_width w);
      inside = omega (arith, inside);
      room = whole_fits count w;
    })

-- Widths of operands other than SEW, in bits.
use Rattle.std.proofs.Common.{◌≡◌, ℕ, ◌*◌, ◌/◌, max, refl}
use mir.Val.{bits}
use Rattle.rv_model.specs.declared.instructions.operations.ExtendOp.{ExtendOp}
use Rattle.rv_model.specs.declared.instructions.operations.ExtendOp.TheVariants.{VzextVf8}
use Rattle.rv_model.specs.declared.legality.Role.TheVariants.{Read}
use Rattle.rv_model.specs.declared.vector.types.Sew.{Sew}
use Rattle.rv_model.specs.declared.vector.types.Sew.TheVariants.{E8}
use Rattle.rv_model.specs.declared.vector.types.VType.{VType}
use Rattle.rv_model.specs.legality.Legality.{extension_source}
use Rattle.rv_model.specs.lending.GroupBounds.{emul}
use Rattle.rv_model.specs.vector.Groups.{sew_bits, sew_width, doubled, extension_divisor, part_width}
use Rattle.reg_groups.specs.Roles.{groups_of}

-- twice SEW, in bits
pub doubled_bits : (s : Sew) → bits (doubled (sew_width s)) ≡ 2 * sew_bits s
doubled_bits E8 = refl
doubled_bits _ = refl

part_bits : (o : ExtendOp) (s : Sew) → bits (part_width o (sew_width s)) ≡ max (sew_bits s / extension_divisor o) 8
part_bits VzextVf8 E8 = refl
part_bits _ E8 = refl
part_bits _ _ = refl

pub part_group : (o : ExtendOp) (first : ℕ) (t : VType)
    → groups_of Read 1 first (sew_bits t.sew / extension_divisor o) (emul (max (sew_bits t.sew / extension_divisor o) 8) t) ≡ extension_source o first t
part_group o first t = rw (part_bits o t.sew) refl

-- Legality of operands with the vector type's multiplier: their groups are aligned, and operands of equal width may overlap.
use Rattle.std.proofs.Common.{◌≡◌, ℕ, zero, suc, ◌+◌, ◌*◌, ◌≤◌, Bool, ◌&&◌, ◌||◌, not, nat_lt, ◌==◌, max, min, refl, arith, ◌∙◌, ap}
use Rattle.std.proofs.Math.Bool.{or-false, or-true}
use Rattle.std.proofs.lemmas.Bool.Decides.{nat_tests}
use Rattle.std.specs.Prelude.{◌∷◌}
use Rattle.rv_model.specs.declared.legality.Role.{Role}
use Rattle.rv_model.specs.declared.legality.Role.TheVariants.{Read, Control, Write, Apart}
use Rattle.rv_model.specs.declared.vector.types.VType.{VType}
use Rattle.rv_model.specs.declared.instructions.operations.Eew.{Eew}
use Rattle.rv_model.specs.legality.Legality.{access_operands}
use Rattle.rv_model.specs.legality.OperandShapes.{group, mask, v0}
use Rattle.rv_model.specs.legality.RegisterOperands.{allows, are_legal, is_group}
use Rattle.rv_model.specs.vector.Groups.{GroupType, element_width, group_type, lmul_eighths, sew_bits, registers}
use Rattle.rv_model.proofs.legality_lemmas.Bounds.{emul-sew}
use Rattle.reg_groups.specs.Roles.{is_apart_from_mask}
use Rattle.reg_groups.proofs.Sources.{masked_legal}

-- a destination contains v0 if and only if it starts with v0
pub holds_v0 : (a n : ℕ) → 1 ≤ n → nat_lt (max a 0) (min (a + 1 * n) (0 + 1 * 1)) ≡ (a == 0)
holds_v0 zero n h = grind (arith, nat_tests)
holds_v0 (suc a) n h = grind (arith, nat_tests)

-- a group has at least one register
pub some_registers : (e : ℕ) → 1 ≤ registers e
some_registers e = omega arith

apart_from_v0 : (a : ℕ) (g : GroupType) → not (nat_lt (max a 0) (min (a + 1 * registers g.emul) (0 + 1 * 1))) ≡ not (a == 0)
apart_from_v0 a g = ap not (holds_v0 a (registers g.emul) (some_registers g.emul))

pub role_allows : (r : Role) (a : ℕ) (g : GroupType) → allows (group r a g) (mask Control 0) ≡ (not (is_apart_from_mask r) || not (a == 0))
role_allows Write a g = or-false _ ∙ apart_from_v0 a g
role_allows Apart a g = or-false _ ∙ apart_from_v0 a g
role_allows _ a g = or-true _

-- one group of elements of SEW, and the mask
pub group_with_mask : (r : Role) (a : ℕ) (unmasked : Bool) (t : VType)
    → are_legal (group r a (group_type t) ∷ v0 unmasked)
    ≡ (is_group (group Read a (group_type t)) && (unmasked || (not (is_apart_from_mask r) || not (a == 0))))
group_with_mask r a unmasked t = masked_legal (group r a (group_type t)) unmasked ∙ rw (role_allows r a (group_type t)) refl

-- an access to one field of elements of SEW has one group of the vector type
pub access_of_sew : (r : Role) (width : Eew) (nf vd : ℕ) (unmasked : Bool) (t : VType)
    → nf ≡ 0 → sew_bits (element_width width) ≡ sew_bits t.sew
    → are_legal (access_operands r width nf vd unmasked t) ≡ are_legal (group r vd (group_type t) ∷ v0 unmasked)
access_of_sew r width nf vd unmasked t one same = rw (one, same, emul-sew t.sew (lmul_eighths t.lmul)) refl

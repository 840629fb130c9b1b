-- The group of an instruction that ran is ready for its overlay.
use Rattle.std.proofs.Common.{ℕ, ◌≡◌, ◌+◌, ◌≤◌, ◌&&◌, not, nat_le, Bool, true, false, Some, arith, refl}
use Rattle.std.proofs.lemmas.Bool.Decides.{nat_tests}
use mir.Val.{bits}
use Rattle.rv_model.specs.declared.vector.sizes.TheConstants.{GROUP_BYTES}
use Rattle.rv_model.specs.declared.vector.types.Sew.{Sew}
use Rattle.rv_model.specs.declared.vector.types.Sew.TheVariants.{E64}
use Rattle.rv_model.specs.step.Hart.{HartState}
use Rattle.rv_model.specs.vector.Groups.{registers}
use Rattle.open_choices.specs.declared.open_group.OpenGroup.{OpenGroup}
use Rattle.open_choices.specs.Fills.{fill_at}
use Rattle.open_choices.specs.Groups.{fill_of_group, is_ready, is_widest, width_or_twice}
use Rattle.open_choices.proofs.ChosenSteps.{found, inside, most, narrow}

not_widest : (wide : Bool) (sew : Sew) → bits (width_or_twice wide sew) ≤ 64 → not (wide && is_widest sew) ≡ true
not_widest true E64 h = absurd (omega (arith, h))
not_widest true _ h = refl
not_widest false sew h = refl

all_tests : (a b c : ℕ) (d : Bool) → a ≤ 32 → b ≤ 64 → c ≤ 256 → d ≡ true → (nat_le a 32 && (nat_le b 64 && (nat_le c 256 && d))) ≡ true
all_tests a b c d h k l m = grind (arith, nat_tests)

pub ready : (s : HartState) (o : OpenGroup) → fill_at s ≡ Some (fill_of_group o) → o.end ≤ GROUP_BYTES → is_ready o ≡ true
ready s o is short =
    let it = found s (fill_of_group o) is in
    all_tests (o.first + registers o.emul) o.emul o.end _ (inside s (fill_of_group o) it) (most s (fill_of_group o) it) short
    (not_widest o.wide o.sew (narrow s (fill_of_group o) it))

-- Laws of the choices of a seed.
use Rattle.std.specs.Prelude.{ℕ, ◌≡◌, true, length}
use Rattle.rv_model.specs.declared.vector.policy.Policy.TheVariants as policy
use Rattle.rv_model.specs.declared.vector.request.RequestedLength.TheVariants.{Elements}
use Rattle.rv_model.specs.declared.vector.sizes.TheConstants.{FILE_BYTES}
use Rattle.rv_model.specs.step.Hart.{HartState}
use Rattle.rv_model.specs.step.Step.{step}
use Rattle.open_choices.specs.declared.seeds.Seed.{Seed}
use Rattle.open_choices.specs.OpenStep.{IsOpenStep}
use Rattle.open_choices.specs.Seeds.{chooses, chosen_length, seeded}

-- Whatever a seed chooses, the standard allows the state.
abbrev pub SeededIsOpen : Type 0
SeededIsOpen = (c : Seed) (number : ℕ) (s : HartState) → s.policy ≡ policy.Keep → length s.vector.file ≡ FILE_BYTES → IsOpenStep s (seeded c number s)

-- Seed 0 leaves the state of the step.
abbrev pub ZeroIsStep : Type 0
ZeroIsStep = (c : Seed) (number : ℕ) (s : HartState) → c.seed ≡ 0 → s.policy ≡ policy.Keep → length s.vector.file ≡ FILE_BYTES
    → seeded c number s ≡ (step 256 s).state

-- At two instructions at which a seed chooses, the same AVL and VLMAX get the same length, if vl is the same without choices.
abbrev pub SameLength : Type 0
SameLength = (c : Seed) (one two avl most vl : ℕ) → chooses c one ≡ true → chooses c two ≡ true
    → chosen_length c one (Elements avl) most vl ≡ chosen_length c two (Elements avl) most vl

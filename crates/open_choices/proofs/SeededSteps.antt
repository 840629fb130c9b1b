-- The state with the choices of a seed is one that the standard allows.
use Rattle.std.proofs.Common.{ℕ, ◌≡◌, ◌∙◌, ◌&&◌, ◌*◌, Bool, true, false, Option, Some, None, eqb, nat_lt, length, refl, ap, inl}
use Rattle.rv_model.specs.declared.step.step_end.StepEnd.{StepEnd}
use Rattle.rv_model.specs.declared.step.step_end.StepEnd.TheVariants.{Ran}
use Rattle.rv_model.specs.declared.vector.request.RequestedLength.{RequestedLength}
use Rattle.rv_model.specs.declared.vector.request.RequestedLength.TheVariants.{Elements}
use Rattle.rv_model.specs.step.Hart.{HartState}
use Rattle.rv_model.specs.step.Step.{step}
use Rattle.rv_model.specs.vector.Groups.{Configuration}
use Rattle.open_choices.specs.declared.seeds.Seed.{Seed}
use Rattle.open_choices.specs.Fills.{Fill, fill_at, overlaid}
use Rattle.open_choices.specs.OpenStep.{asked_by, instr_at, with_choices}
use Rattle.open_choices.specs.SeedLaws.{SameLength, SeededIsOpen, ZeroIsStep}
use Rattle.open_choices.specs.Seeds.{chooses, chosen_length, first_only_at, has_kind, is_chosen, is_taken, left_at, left_by}
use Rattle.open_choices.proofs.ChosenSteps.{none_chosen, overlay_is_agnostic, overlay_long}
use Rattle.open_choices.proofs.OpenLengths.{left_open}

pub seeded_is_open : SeededIsOpen
seeded_is_open c number s keeps long =
    record {
      file = overlaid s (is_taken c number (fill_at s));
      left = left_at (step 256 s).end c number s (step 256 s).state.vector.conf;
      is = refl;
      size = overlay_long s keeps long (is_taken c number (fill_at s));
      elements = λ e. inl (overlay_is_agnostic s keeps long (is_taken c number (fill_at s)) e);
      length_is = left_open c number s (step 256 s).end;
    }

-- ---- seed 0

never : (c : Seed) (n : ℕ) → c.seed ≡ 0 → chooses c n ≡ false
never c n zero = rw zero refl

none_by : (b x : Bool) → b ≡ false → (b && x) ≡ false
none_by b x h = rw h refl

module _ (c : Seed) (number : ℕ) (s : HartState) (zero : c.seed ≡ 0) where
  none_taken : (f : Option Fill) (e : ℕ) → is_taken c number f e ≡ false
  none_taken None e = refl
  none_taken (Some f) e = none_by (is_chosen c number e) (has_kind c.kinds f e) (none_by (chooses c number) _ (never c number zero))

  no_choice : (k x : Bool) → ((k && chooses c number) && x) ≡ false
  no_choice k x = none_by (k && chooses c number) x (second k (chooses c number) (never c number zero))
    where
      second : (k b : Bool) → b ≡ false → (k && b) ≡ false
      second true b h = h
      second false b h = refl

  abbrev new : Configuration
  new = (step 256 s).state.vector.conf

  same_length : (asked : RequestedLength) (most : ℕ) → chosen_length c number asked most new.vl ≡ new.vl
  same_length (Elements avl) most = rw (no_choice c.kinds.length (nat_lt most avl && nat_lt avl (2 * most))) refl
  same_length _ most = refl

  same_left : (asked : Option (ℕ × RequestedLength)) (first : Option ℕ) → left_by c number asked first new ≡ new.vl
  same_left (Some asked) first = same_length asked.1 _
  same_left None (Some vstart) = rw (no_choice c.kinds.trim (eqb vstart 0 && nat_lt 1 new.vl)) refl
  same_left None None = refl

  left_same : (end : StepEnd) → left_at end c number s new ≡ new.vl
  left_same Ran = same_left (asked_by (instr_at s) s) (first_only_at (instr_at s) s)
  left_same _ = refl

pub zero_is_step : ZeroIsStep
zero_is_step c number s zero keeps long =
    ap (λ left. with_choices s (overlaid s (is_taken c number (fill_at s))) left) (left_same c number s zero (step 256 s).end)
    ∙ none_chosen s (is_taken c number (fill_at s)) keeps long (none_taken c number s zero (fill_at s))

pub same_lengths : SameLength
same_lengths c one two avl most vl first second = rw (first, second) refl

-- A step without choices is allowed, and so are choices of one kind each.
use Rattle.std.proofs.Common.{ℕ, ◌≡◌, ◌+◌, ◌*◌, ◌∙◌, slice_index, length, refl, sym, ap, subst, inl, inr, true, eqb, Option, Some, arith}
use Rattle.std.specs.Prelude.{MatchOption}
use Rattle.std.proofs.lemmas.Bool.Decides.{nat_tests}
use Rattle.rv_model.specs.declared.vector.policy.Policy.TheVariants as policy
use Rattle.rv_model.specs.step.Hart.{HartState}
use Rattle.rv_model.specs.step.Step.{step}
use Rattle.rv_model.specs.declared.vector.request.RequestedLength.{RequestedLength}
use Rattle.rv_model.proofs.Choices.{of_bool}
use Rattle.open_choices.specs.OpenStep.{FilledStepIsOpen, IsBetween, IsElementOf, IsOpenElement, OtherLengthIsOpen, StepIsOpen, TrimmedStepIsOpen, asked_by, file_under, grain, instr_at, is_behind_at}

pub same_number : (n : ℕ) → eqb n n ≡ true
same_number n = search (arith, nat_tests)

-- the policy of a state under the policy `keep`
as_kept : (s : HartState) → s.policy ≡ policy.Keep → record s { policy = policy.Keep } ≡ s
as_kept s h = ap (λ p. record s { policy = p }) (sym h)

pub same_file : (s : HartState) → s.policy ≡ policy.Keep → (step 256 s).state.vector.file ≡ file_under policy.Keep s
same_file s h = ap (λ t. (step 256 t).state.vector.file) (sym (as_kept s h))

pub step_is_open : StepIsOpen
step_is_open s h =
    record {
      file = (step 256 s).state.vector.file;
      left = (step 256 s).state.vector.conf.vl;
      is = rw (same_number (step 256 s).state.vector.conf.vl) refl;
      size = refl;
      elements = λ e. inl (inl (λ m l r. ap (λ file. slice_index file (grain s * e + m)) (same_file s h)));
      length_is = inl refl;
    }

pub filled_step_is_open : FilledStepIsOpen
filled_step_is_open s h long =
    record {
      file = file_under policy.Ones s;
      left = (step 256 s).state.vector.conf.vl;
      is = refl;
      size = long ∙ ap length (sym (same_file s h));
      elements = λ e. inl (inr (λ m l r. refl));
      length_is = inl refl;
    }

pub trimmed_step_is_open : TrimmedStepIsOpen
trimmed_step_is_open s file left h first start some most long others =
    record {
      file = file;
      left = left;
      is = refl;
      size = long;
      elements = λ e. of_bool (is_behind_at s left e) (λ b. IsOpenElement s left file e) (λ behind. inr (first, behind))
          (λ before. inl (inl (subst (λ from. IsElementOf (grain s) from file e) (same_file s h) (others e before))));
      length_is = inr (inl (first, (start, (some, most))));
    }

pub between : (o : Option (ℕ × RequestedLength)) (rd most left : ℕ) (length : RequestedLength) → o ≡ Some (rd, length) → IsBetween length most left
    → MatchOption o ⊥ (λ asked. IsBetween asked.1 most left)
between o rd most left length is h = rw is h

pub other_length_is_open : OtherLengthIsOpen
other_length_is_open s rd length left h is inside =
    record {
      file = (step 256 s).state.vector.file;
      left = left;
      is = refl;
      size = refl;
      elements = λ e. inl (inl (λ m l r. ap (λ file. slice_index file (grain s * e + m)) (same_file s h)));
      length_is = inr (inr (between (asked_by (instr_at s) s) rd _ left length is inside));
    }

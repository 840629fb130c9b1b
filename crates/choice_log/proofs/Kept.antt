-- The lines of one instruction, as `after_step` writes them.
use Rattle.std.proofs.Common.{◌≡◌, ◌∙◌, ◌∷◌, [], ℕ, Bool, true, false, List, Option, ap, refl, subst, sym, append-nil, if◌then◌else◌}
use Rattle.std.proofs.lemmas.Bool.{false≢true}
use Rattle.recording.proofs.Counted.{was_fetched}
use Rattle.recording.specs.Runs.{is_counted}
use Rattle.recording.specs.OpenRuns.{IsOpenAt, asked_of_open, fill_of_open, has_run}
use Rattle.rv_model.specs.declared.step.step_end.StepEnd.{StepEnd}
use Rattle.rv_model.specs.declared.step.step_end.StepEnd.TheVariants.{Ran}
use Rattle.rv_model.specs.declared.vector.request.RequestedLength.{RequestedLength}
use Rattle.rv_model.specs.step.Hart.{HartState, Stepped, ends_after}
use Rattle.rv_model.specs.step.Step.{step}
use Rattle.open_choices.specs.declared.seeds.Seed.{Seed}
use Rattle.open_choices.specs.Fills.{Fill, fill_of}
use Rattle.open_choices.specs.OpenStep.{asked_by, instr_at}
use Rattle.open_choices.specs.Seeds.{first_only_at}
use Rattle.choice_log.specs.ChoiceLines.{choice_lines, choices_from, lines_by, one_more}
use Rattle.choice_log.specs.Listed.{IsListed, IsReady, lines_of_open, number_after}
use Rattle.choice_log.specs.declared.choice_log.ChoiceLog.{ChoiceLog}

-- an instruction that retired is counted
counts : (end : StepEnd) → has_run end ≡ true → is_counted end ≡ true
counts Ran h = refl
counts _ h = absurd (false≢true h)

-- the lines of an instruction with this end, from its result
abbrev lines_after : Seed → ℕ → HartState → Stepped → List ℕ
lines_after c number s one =
    if has_run one.end then lines_by c number (fill_of (instr_at s) s) (asked_by (instr_at s) s) (first_only_at (instr_at s) s) one.state.vector.conf else []

module _ {K : Type 0} (Took : K → List ℕ → K → Type 0) (before old : ChoiceLog K) (s next : HartState) (end : StepEnd) (ticks : ℕ) (prepared : IsReady before s old)
    (made : step 256 s ≡ ends_after ticks end next) where
  -- the lines that the sink took are those of the instruction
  listed_by : (bytes : List ℕ) (new : ChoiceLog K) → new.seed ≡ old.seed → new.number ≡ old.number → Took old.sink bytes new.sink
      → choice_lines before.seed (one_more before.number) s ≡ bytes → IsListed Took before (s ∷ []) new
  unfolding choices_from number_after
  listed_by bytes new seed number took is =
      record {
        seed_is = seed ∙ prepared.seed_is;
        number_is = number ∙ prepared.number_is;
        lines = subst (λ (sink : K). Took sink (choices_from before.seed before.number (s ∷ [])) new.sink) prepared.sink_is
            (subst (λ (l : List ℕ). Took old.sink l new.sink) (sym is ∙ sym (append-nil (choice_lines before.seed (one_more before.number) s))) took);
      }

  -- those of its result
  lines_are : choice_lines before.seed (one_more before.number) s ≡ lines_after before.seed (one_more before.number) s (ends_after ticks end next)
  lines_are = ap (λ (one : Stepped). lines_after before.seed (one_more before.number) s one) made

  -- an instruction that didn't retire has none
  pub none_kept : ((k : K) → Took k [] k) → has_run end ≡ false → IsListed Took before (s ∷ []) old
  none_kept took_none stopped =
      listed_by [] old refl refl (took_none old.sink)
      (lines_are
      ∙ ap (λ (b : Bool). if b then lines_by before.seed (one_more before.number) (fill_of (instr_at s) s) (asked_by (instr_at s) s) (first_only_at (instr_at s) s) next.vector.conf else []) stopped)

  -- one that retired has those of what it leaves open
  pub lines_kept : (new : ChoiceLog K) → has_run end ≡ true → new.seed ≡ old.seed → new.number ≡ old.number
      → Took old.sink (lines_of_open old.seed old.number old.left next.vector.conf) new.sink → IsListed Took before (s ∷ []) new
  lines_kept new ran seed number took =
      let fetched = was_fetched s next ticks end made (counts end ran) in
      let at : IsOpenAt s old.left = prepared.open_is in
      listed_by (lines_of_open old.seed old.number old.left next.vector.conf) new seed number took
      (lines_are
      ∙ ap (λ (b : Bool). if b then lines_by before.seed (one_more before.number) (fill_of (instr_at s) s) (asked_by (instr_at s) s) (first_only_at (instr_at s) s) next.vector.conf else []) ran
      ∙ ap (λ (f : Option Fill). lines_by before.seed (one_more before.number) f (asked_by (instr_at s) s) (first_only_at (instr_at s) s) next.vector.conf) (sym (at.fill fetched))
      ∙ ap (λ (a : Option (ℕ × RequestedLength)). lines_by before.seed (one_more before.number) (fill_of_open old.left) a (first_only_at (instr_at s) s) next.vector.conf) (sym (at.asked fetched))
      ∙ ap (λ (f : Option ℕ). lines_by before.seed (one_more before.number) (fill_of_open old.left) (asked_of_open old.left) f next.vector.conf) (sym (at.first fetched))
      ∙ ap (λ (c : Seed). lines_of_open c (one_more before.number) old.left next.vector.conf) (sym prepared.seed_is)
      ∙ ap (λ (n : ℕ). lines_of_open old.seed n old.left next.vector.conf) (sym prepared.number_is))

use Rattle.std.proofs.Common.{ap, inl, inr, refl, subst}
use Rattle.std.specs.List.{AllZip}
use Rattle.std.proofs.lemmas.Result.{on_ok_weaker}
use Rattle.vec_recorder.specs.CommandLine.{option_arguments}
use Rattle.vec_recorder.specs.MemoryArguments.{IsMemoryAt, IsMemoryOf}
use Rattle.vec_recorder.specs.Paths.{ArePathsApart}
use Rattle.vec_recorder.specs.Recorded.{AreValuesOf}
use Rattle.vec_recorder.specs.Statuses.{program_status}
use Rattle.vec_recorder.specs.WatchArguments.{IsPlaceAt, IsPlaceOf}
use Rattle.vec_recorder.proofs.MemoryArgumentLaws.{zip_texts}
use Rattle.vec_recorder.proofs.RunLaws.{entered_with}
use Rattle.vec_recorder.proofs.StopLaws.{alone, not_five, unchosen}
use Rattle.vec_recorder.proofs.program.record_options.Goals as goal

pub run_options-requires-clause-machine : goal.run_options-requires-clause-machine
run_options-requires-clause-machine g c = entered_with _ _ c.enter.ensures

pub run_options-requires-clause-alone : goal.run_options-requires-clause-alone
run_options-requires-clause-alone g c = λ some. alone (option_arguments c.args.options.now) c.in_ok-seed.seed c.in_ok-seed.ensures.choices some

pub run_options-requires-clause-unchosen : goal.run_options-requires-clause-unchosen
run_options-requires-clause-unchosen g c = λ none. unchosen (option_arguments c.args.options.now) c.in_ok-seed.seed c.in_ok-seed.ensures.choices none

pub returns : goal.returns
returns g c =
    let arguments = subst (λ them. AllZip IsMemoryAt them c.in_ok-memories.memories.items) c.as_slice.ensures.value c.in_ok-memories.ensures.paths in
    let places = subst (λ them. AllZip IsPlaceAt them c.in_ok-places.places.items) c.as_slice-2.ensures.value c.in_ok-places.ensures.places in
    let values : AreValuesOf (option_arguments c.args.options.now) c.in_ok-policy.policy c.in_ok-ticks.ticks c.in_ok-memories.memories.items c.in_ok-places.places.items c.in_ok-window.window c.in_ok-seed.seed =
    record {
      policy_is = c.in_ok-policy.ensures;
      ticks_are = c.in_ok-ticks.ensures;
      memories_are = zip_texts IsMemoryOf _ _ arguments;
      places_are = zip_texts IsPlaceOf _ _ places;
      first_is = c.in_ok-window.ensures.from;
      last_is = c.in_ok-window.ensures.to;
      in_order = c.in_ok-window.ensures.order;
      apart = subst (ArePathsApart (option_arguments c.args.options.now)) c.as_slice-3.ensures.value (c.in_ok-check_paths.ensures.apart refl);
      choices_are = c.in_ok-seed.ensures.choices;
    } in
    record {
      ran = on_ok_weaker c.run_options.result
          (λ run. record { policy = c.in_ok-policy.policy; ticks = c.in_ok-ticks.ticks; memories = c.in_ok-memories.memories.items; places = c.in_ok-places.places.items; window = c.in_ok-window.window; seed = c.in_ok-seed.seed; values = values; run = run })
          c.run_options.ensures.ran;
      printed = elim c.run_options.ensures.printed [
        | inl none ↦ inl none
        | inr run ↦ inr (record { policy = c.in_ok-policy.policy; ticks = c.in_ok-ticks.ticks; memories = c.in_ok-memories.memories.items; places = c.in_ok-places.places.items; window = c.in_ok-window.window; seed = c.in_ok-seed.seed; values = values; run = run })
      ];
      nothing = c.run_options.ensures.nothing;
      unused = c.run_options.ensures.unused;
      failed = c.run_options.ensures.failed;
      kept = c.run_options.ensures.kept;
    }

pub returns-in_err-policy-clause-failed : goal.returns-in_err-policy-clause-failed
returns-in_err-policy-clause-failed g c = not_five _ c.from_residual.result c.in_err-policy.field-0.0 (inl (ap program_status c.in_err-policy.ensures.0)) c.from_residual.ensures.1

pub returns-in_err-ticks-clause-failed : goal.returns-in_err-ticks-clause-failed
returns-in_err-ticks-clause-failed g c = not_five _ c.from_residual-in_err-ticks.result c.in_err-ticks.field-0.0 (inl (ap program_status c.in_err-ticks.ensures.0)) c.from_residual-in_err-ticks.ensures.1

pub returns-in_err-window-clause-failed : goal.returns-in_err-window-clause-failed
returns-in_err-window-clause-failed g c = not_five _ c.from_residual-in_err-window.result c.in_err-window.field-0.0 (inl c.in_err-window.ensures.refused) c.from_residual-in_err-window.ensures.1

pub returns-in_err-check_log-clause-failed : goal.returns-in_err-check_log-clause-failed
returns-in_err-check_log-clause-failed g c = not_five _ c.from_residual-in_err-check_log.result c.in_err-check_log.field-0.0 (inl c.in_err-check_log.ensures) c.from_residual-in_err-check_log.ensures.1

pub returns-in_err-memories-clause-failed : goal.returns-in_err-memories-clause-failed
returns-in_err-memories-clause-failed g c = not_five _ c.from_residual-in_err-memories.result c.in_err-memories.field-0.0 (elim c.in_err-memories.ensures.refused [ inl none ↦ inr (inr (ap program_status none)) | inr usage ↦ inl usage.0 ]) c.from_residual-in_err-memories.ensures.1

pub returns-in_err-places-clause-failed : goal.returns-in_err-places-clause-failed
returns-in_err-places-clause-failed g c = not_five _ c.from_residual-in_err-places.result c.in_err-places.field-0.0 (elim c.in_err-places.ensures.refused [ inl none ↦ inr (inr (ap program_status none)) | inr usage ↦ inl usage.0 ]) c.from_residual-in_err-places.ensures.1

pub returns-in_err-check_paths-clause-failed : goal.returns-in_err-check_paths-clause-failed
returns-in_err-check_paths-clause-failed g c = not_five _ c.from_residual-in_err-check_paths.result c.in_err-check_paths.field-0.0 (elim c.in_err-check_paths.ensures.refused [ inl two ↦ inl two | inr six ↦ inr (inr six) ]) c.from_residual-in_err-check_paths.ensures.1

pub returns-in_err-seed-clause-failed : goal.returns-in_err-seed-clause-failed
returns-in_err-seed-clause-failed g c = not_five _ c.from_residual-in_err-seed.result c.in_err-seed.field-0.0 (inl c.in_err-seed.ensures.refused) c.from_residual-in_err-seed.ensures.1

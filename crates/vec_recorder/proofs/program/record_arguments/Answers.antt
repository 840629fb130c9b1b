use Rattle.std.proofs.Common.{◌≡◌, IfErr, inl, inr, refl, subst}
use Rattle.std.specs.Prelude.{◌⊎◌, IsSome, flat_map}
use Rattle.std.proofs.lemmas.Result.{on_ok_weaker}
use Rattle.clap.specs.Walk.{texts}
use Rattle.clap.specs.Words.{IsAmong}
use Rattle.recording.specs.Runs.{TakesFirst, output_of, ran_by}
use Rattle.vec_recorder.specs.CommandLine.{arguments_fault, IsRefusedFor}
use Rattle.vec_recorder.specs.OpenArguments.{next_of}
use Rattle.vec_recorder.specs.Recorded.{IsComplete, RecordedBy}
use Rattle.vec_recorder.specs.Statuses.{HasCause, program_status}
use Rattle.vec_recorder.proofs.program.record_arguments.Goals as goal

pub returns-in-Ok : goal.returns-in-Ok
returns-in-Ok g c =
    let asked = c.in-Ok.ensures in
    let file_bytes = g.I.Inputs.file_bytes c.args.inputs.now in
    record {
      recorded = on_ok_weaker c.record_options.result
          (λ ran. inr (record {
            accepted = asked.taken refl;
            run = subst
                (λ them. RecordedBy file_bytes them
                (IsComplete g.F.Outputs.is_created g.F.Created.Sink.took g.F.Outputs.is_closed (λ printed. g.K.Sink.took c.args.output.now printed c.record_options.new.output) them c.args.files.now
                c.record_options.new.files))
                asked.arguments ran;
          }))
          c.record_options.ensures.ran;
      printed = elim c.record_options.ensures.printed [
        | inl none ↦ inl none
        | inr first ↦ inr (inr (record {
          accepted = asked.taken refl;
          run = subst
              (λ them. RecordedBy file_bytes them (λ seed ticks _ _ state. TakesFirst g.K.Sink.took c.args.output.now (flat_map output_of (ran_by (next_of seed) ticks state).found) c.record_options.new.output))
              asked.arguments first;
        }))
      ];
      nothing = c.record_options.ensures.nothing;
      unused = c.record_options.ensures.unused;
      failed = subst
          (λ them. IfErr c.record_options.result (λ fault. program_status fault ≡ 5 → HasCause ((IsSome them.counts ⊎ IsSome them.changes) ⊎ IsSome them.chosen)
          (g.K.Sink.failures c.args.output.now) (g.K.Sink.failures c.record_options.new.output) (g.F.Outputs.failures c.args.files.now) (g.F.Outputs.failures c.record_options.new.files) (g.F.Outputs.write_failures c.args.files.now) (g.F.Outputs.write_failures c.record_options.new.files)))
          asked.arguments c.record_options.ensures.failed;
      kept = c.record_options.ensures.kept;
    }

pub returns-in-Ok-write_text-clause-recorded : goal.returns-in-Ok-write_text-clause-recorded
returns-in-Ok-write_text-clause-recorded g c =
    let kinds = arguments_fault (texts c.args.arguments.now) in
    let refused = subst (IsRefusedFor kinds) c.in-Err-Help.field-0-is c.in-Err-Help.ensures.refused in
    inl (record {
      asked = subst (λ kind. IsAmong kind kinds) refused.0 refused.1;
      text = c.write_text.ensures.printed.0;
      taken = c.write_text.ensures.printed.1;
      files = refl;
    })

use Rattle.std.proofs.Common.{IfErr, ℕ, flat_map, refl, subst}
use Rattle.std.specs.Prelude.{option_map}
use Rattle.recording.specs.Machines.{state_of}
use Rattle.recording.specs.OpenRuns.{seeded_from}
use Rattle.recording.specs.Runs.{output_of, ran_by}
use Rattle.rv_model.specs.step.Hart.{HartState}
use Rattle.first_state.specs.OwnMemory.{own_memory}
use Rattle.vec_recorder.specs.Recorded.{IsLogKept, IsStopped}
use Rattle.vec_recorder.specs.Statuses.{HasCause}
use Rattle.vec_recorder.proofs.StopLaws.{chosen_next, passed_on, wider_cause}
use Rattle.vec_recorder.proofs.runs.run_chosen.Goals as goal

pub returns-clause-output : goal.returns-clause-output
returns-clause-output g c =
    subst
    (λ (next : ℕ → HartState → HartState). g.K.Sink.took c.args.output.now (flat_map output_of (ran_by next c.args.asked.ticks (state_of own_memory c.args.machine.now)).found) c.run_recorded.new.output)
    (chosen_next c.new-chooser.result c.args.seed c.new-chooser.ensures.seed c.new-chooser.ensures.done) c.in_ok-short.ensures.run.output

pub returns-clause-log : goal.returns-clause-log
returns-clause-log g c =
    subst
    (λ (next : ℕ → HartState → HartState). IsLogKept g.F.Outputs.is_created g.F.Created.Sink.took g.F.Outputs.is_closed (option_map (λ log. log.path.now) c.args.asked.log) c.args.asked.window next
    c.args.asked.ticks (state_of own_memory c.args.machine.now) c.args.files.now c.run_recorded.new.files)
    (chosen_next c.new-chooser.result c.args.seed c.new-chooser.ensures.seed c.new-chooser.ensures.done) c.in_ok-short.ensures.log

pub returns-in_err-short-clause-stopped : goal.returns-in_err-short-clause-stopped
returns-in_err-short-clause-stopped g c =
    subst
    (λ (next : ℕ → HartState → HartState). IfErr c.from_residual.result (IsStopped g.K.Sink.took next c.args.asked.ticks (state_of own_memory c.args.machine.now)
    c.args.output.now c.run_recorded.new.output (HasCause ⊥
    (g.K.Sink.failures c.args.output.now) (g.K.Sink.failures c.run_recorded.new.output) (g.F.Outputs.failures c.args.files.now) (g.F.Outputs.failures c.run_recorded.new.files)
    (g.F.Outputs.write_failures c.args.files.now) (g.F.Outputs.write_failures c.run_recorded.new.files))))
    (chosen_next c.new-chooser.result c.args.seed c.new-chooser.ensures.seed c.new-chooser.ensures.done)
    (passed_on g.K.Sink.took (λ k s. seeded_from c.new-chooser.result.seed c.new-chooser.result.done k s) c.args.asked.ticks (state_of own_memory c.args.machine.now) _ _ _ c.from_residual.result (wider_cause refl refl (λ last. last.1.1)) c.in_err-short.ensures.stopped c.from_residual.ensures.1)

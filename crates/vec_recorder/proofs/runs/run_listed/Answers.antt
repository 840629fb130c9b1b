use Rattle.std.proofs.Common.{◌<◌, IfErr, Some, ℕ, flat_map, refl, subst, sym}
use Rattle.std.specs.Prelude.{option_map, ⊤}
use Rattle.choice_log.specs.Listed.{IsListed}
use Rattle.recording.specs.Machines.{state_of}
use Rattle.recording.specs.OpenRuns.{seeded_from}
use Rattle.recording.specs.Runs.{output_of, ran_by}
use Rattle.rv_model.specs.step.Hart.{HartState}
use Rattle.first_state.specs.OwnMemory.{own_memory}
use Rattle.vec_recorder.specs.OpenArguments.{next_of}
use Rattle.vec_recorder.specs.Recorded.{IsLogKept, IsStopped}
use Rattle.vec_recorder.proofs.RunLaws.{choices_printed}
use Rattle.vec_recorder.proofs.StopLaws.{chosen_next, passed_on, stopped_in, stopped_late, unstarted}
use Rattle.vec_recorder.proofs.runs.run_listed.Goals as goal

pub returns-clause-output : goal.returns-clause-output
returns-clause-output g c =
    subst
    (λ (next : ℕ → HartState → HartState). g.K.Sink.took c.args.output.now (flat_map output_of (ran_by next c.args.asked.ticks (state_of own_memory c.args.machine.now)).found) c.run_recorded.new.output)
    (chosen_next c.new-chooser.result c.args.seed c.new-chooser.ensures.seed c.new-chooser.ensures.done) c.in_ok-both.ensures.run.output

pub returns-clause-chosen : goal.returns-clause-chosen
returns-clause-chosen g c =
    let s = state_of own_memory c.args.machine.now in
    let same = chosen_next c.new-chooser.result c.args.seed c.new-chooser.ensures.seed c.new-chooser.ensures.done in
    record {
      empty = c.in_ok-file.file;
      full = c.write.new.self;
      first = c.created_file.new.files;
      last = c.run_recorded.new.files;
      made = c.in_ok-file.ensures.created;
      others = subst
          (λ (next : ℕ → HartState → HartState). IsLogKept g.F.Outputs.is_created g.F.Created.Sink.took g.F.Outputs.is_closed (option_map (λ log. log.path.now) c.args.asked.log) c.args.asked.window next
          c.args.asked.ticks s c.created_file.new.files c.run_recorded.new.files) same c.in_ok-both.ensures.log;
      ended = c.close.ensures.closed;
      says = choices_printed g.F.Created.Sink.took g.met.F.Created.Sink.took_more c.new.result c.in_ok-both.both.second _ _ c.args.seed (ran_by (next_of (Some c.args.seed)) c.args.asked.ticks s).found _
          c.new.ensures.sink c.new.ensures.seed c.new.ensures.number
          (subst (λ (next : ℕ → HartState → HartState). IsListed g.F.Created.Sink.took c.new.result (ran_by next c.args.asked.ticks s).found c.in_ok-both.both.second) same c.in_ok-both.ensures.run.recorded.1)
          c.in-Ok.ensures.bytes;
    }

pub returns-in_err-file-clause-stopped : goal.returns-in_err-file-clause-stopped
returns-in_err-file-clause-stopped g c =
    let none = g.met.K.Sink.took_none c.args.output.now in
    passed_on g.K.Sink.took (next_of (Some c.args.seed)) c.args.asked.ticks (state_of own_memory c.args.machine.now) _ _ _ c.from_residual.result (λ cause. cause)
    (unstarted g.K.Sink.took (next_of (Some c.args.seed)) c.args.asked.ticks (state_of own_memory c.args.machine.now) _ _ c.in_err-file.field-0.0 none c.in_err-file.ensures.refused tt)
    c.from_residual.ensures.1

pub returns-in_err-both-clause-stopped : goal.returns-in_err-both-clause-stopped
returns-in_err-both-clause-stopped g c =
    subst
    (λ (next : ℕ → HartState → HartState). IfErr c.from_residual-in_err-both.result (IsStopped g.K.Sink.took next c.args.asked.ticks (state_of own_memory c.args.machine.now)
    c.args.output.now c.run_recorded.new.output ⊤))
    (chosen_next c.new-chooser.result c.args.seed c.new-chooser.ensures.seed c.new-chooser.ensures.done)
    (passed_on g.K.Sink.took (λ k s. seeded_from c.new-chooser.result.seed c.new-chooser.result.done k s) c.args.asked.ticks (state_of own_memory c.args.machine.now) _ _ _ c.from_residual-in_err-both.result
    (λ _. tt) c.in_err-both.ensures.stopped c.from_residual-in_err-both.ensures.1)

pub returns-in_default-clause-stopped : goal.returns-in_default-clause-stopped
returns-in_default-clause-stopped g c =
    stopped_in g.K.Sink.took (λ k s. seeded_from c.new-chooser.result.seed c.new-chooser.result.done k s) (next_of (Some c.args.seed)) c.args.asked.ticks (state_of own_memory c.args.machine.now) _ _ _ _
    (chosen_next c.new-chooser.result c.args.seed c.new-chooser.ensures.seed c.new-chooser.ensures.done)
    (stopped_late g.K.Sink.took (λ k s. seeded_from c.new-chooser.result.seed c.new-chooser.result.done k s) c.args.asked.ticks (state_of own_memory c.args.machine.now) _ _ _ _ c.in_ok-both.ensures.run.output refl tt)

pub returns-in_err-both-clause-kept : goal.returns-in_err-both-clause-kept
returns-in_err-both-clause-kept g c = λ more.
    g.met.F.Outputs.kept_more _ _ _ c.in_ok-file.ensures.kept
    (c.in_err-both.ensures.kept (subst (λ (n : ℕ). n < g.F.Outputs.failures c.run_recorded.new.files) (sym c.in_ok-file.ensures.unfailed) more))

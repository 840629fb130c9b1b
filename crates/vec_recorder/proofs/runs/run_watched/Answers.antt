use Rattle.std.proofs.Common.{◌<◌, ℕ, ap, inl, inr, refl, subst, sym}
use Rattle.recording.specs.Machines.{state_of}
use Rattle.recording.specs.Runs.{ran_by, stepped}
use Rattle.first_state.specs.OwnMemory.{own_memory}
use Rattle.vec_recorder.proofs.RunLaws.{changes_printed, end_by_totals}
use Rattle.vec_recorder.proofs.StopLaws.{passed_on, some_is, stopped_late, unstarted, widened, wider_cause}
use Rattle.vec_recorder.proofs.runs.run_watched.Goals as goal

pub returns-clause-changes : goal.returns-clause-changes
returns-clause-changes g c =
    let s = state_of own_memory c.args.machine.now in
    let printed = c.in_ok-end.ensures.run.recorded.1 in
    let made = c.new.ensures in
    rw c.in-Some.is (record {
      empty = c.in_ok-file.file;
      full = c.write_last.new.sink;
      first = c.created_file.new.files;
      last = c.run_recorded-2.new.files;
      made = c.in_ok-file.ensures.created;
      others = c.in_ok-end.ensures.log;
      ended = c.close.ensures.closed;
      says = changes_printed g.F.Created.Sink.took g.met.F.Created.Sink.took_more c.new.result c.in_ok-end.both.second.second _ _ _ (ran_by stepped c.args.asked.logged.ticks s).found _ _
          made.sink (ap (λ them. them.items) made.places) made.number made.ticks printed.1
          (end_by_totals stepped c.args.asked.logged.ticks _ _ _ _ s (state_of own_memory c.run_recorded-2.new.machine) c.in_ok-end.end c.write_last.ensures.times c.write_last.ensures.ticks c.none.ensures.times c.none.ensures.ticks
          printed.0.0 printed.0.1 c.in_ok-end.ensures.run.machine c.in_ok-end.ensures.run.end)
          c.in-Ok.ensures.text;
    })

pub returns-in_default-clause-stopped : goal.returns-in_default-clause-stopped
returns-in_default-clause-stopped g c =
    widened g.K.Sink.took stepped c.args.asked.logged.ticks (state_of own_memory c.args.machine.now) _ _ _ c.run_recorded.result
    (wider_cause refl refl (λ last. inl last)) c.run_recorded.ensures.stopped

pub returns-in_err-file-clause-stopped : goal.returns-in_err-file-clause-stopped
returns-in_err-file-clause-stopped g c =
    let none = g.met.K.Sink.took_none c.args.output.now in
    passed_on g.K.Sink.took stepped c.args.asked.logged.ticks (state_of own_memory c.args.machine.now) _ _ _ c.from_residual.result (λ cause. cause)
    (unstarted g.K.Sink.took stepped c.args.asked.logged.ticks (state_of own_memory c.args.machine.now) _ _ c.in_err-file.field-0.0 none c.in_err-file.ensures.refused (inr (inl c.in_err-file.ensures.failed)))
    c.from_residual.ensures.1

-- a recorder of the pair: the caller's, or the changes, which are requested
pub returns-in_err-end-clause-stopped : goal.returns-in_err-end-clause-stopped
returns-in_err-end-clause-stopped g c =
    passed_on g.K.Sink.took stepped c.args.asked.logged.ticks (state_of own_memory c.args.machine.now) _ _ _ c.from_residual-in_err-end.result
    (wider_cause c.in_ok-file.ensures.unfailed c.in_ok-file.ensures.writes
    (λ last. elim last.1.1 [
      | inl first ↦ inl (last.0.first, (last.1.0, first))
      | inr second ↦ inr (some_is _ c.args.asked.changes _ c.in-Some.is)
    ]))
    c.in_err-end.ensures.stopped c.from_residual-in_err-end.ensures.1

pub returns-in_default-write_last-clause-stopped : goal.returns-in_default-write_last-clause-stopped
returns-in_default-write_last-clause-stopped g c =
    stopped_late g.K.Sink.took stepped c.args.asked.logged.ticks (state_of own_memory c.args.machine.now) _ _ _ _ c.in_ok-end.ensures.run.output refl
    (inr (inr (inr (inr (some_is _ c.args.asked.changes _ c.in-Some.is)))))

pub returns-in_err-end-clause-kept : goal.returns-in_err-end-clause-kept
returns-in_err-end-clause-kept g c = λ more.
    g.met.F.Outputs.kept_more _ _ _ c.in_ok-file.ensures.kept
    (c.in_err-end.ensures.kept (subst (λ (n : ℕ). n < g.F.Outputs.failures c.run_recorded-2.new.files) (sym c.in_ok-file.ensures.unfailed) more))

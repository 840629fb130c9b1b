use Rattle.std.proofs.Common.{◌∙◌, ℕ, inl, inr, refl, subst}
use Rattle.devices.specs.Device.{Rose}
use Rattle.recording.specs.Machines.{state_of}
use Rattle.recording.specs.Runs.{ran_by}
use Rattle.first_state.specs.OwnMemory.{own_memory}
use Rattle.vec_recorder.proofs.RunLaws.{end_by_totals, log_printed}
use Rattle.vec_recorder.proofs.StopLaws.{passed_on, stopped_as, stopped_by, stopped_late, unstarted, whole_first}
use Rattle.vec_recorder.proofs.runs.run_recorded.Goals as goal

pub returns-clause-run : goal.returns-clause-run
returns-clause-run g c = record {
  recorded = c.in-Ok.ensures.recorded.0;
  end = c.in-Ok.ensures.end;
  machine = c.in-Ok.ensures.machine;
  output = c.in-Ok.ensures.output;
}

pub returns-clause-log : goal.returns-clause-log
returns-clause-log g c =
    let s = state_of own_memory c.args.machine.now in
    let printed = c.in-Ok.ensures.recorded.1 in
    let made = c.new-log.ensures in
    let empty = rw c.in-Some.is at c.requires in
    rw c.in-Some.is (record {
      empty = c.in_ok-file.file;
      full = c.write_last.new.sink;
      first = c.created_file.new.files;
      last = c.created_file.new.files;
      made = c.in_ok-file.ensures.created;
      others = refl;
      ended = c.close.ensures.closed;
      says = log_printed g.F.Created.Sink.took g.met.F.Created.Sink.took_more c.new-log.result c.run.new.recorder.second.second _ _ _ c.args.asked.window (ran_by (g.C.Chooser.next c.args.chooser.now) c.args.asked.ticks s).found _ _
          made.sink made.window made.number (made.text ∙ empty) printed.1 c.in_default-finish.ensures.printed
          (end_by_totals (g.C.Chooser.next c.args.chooser.now) c.args.asked.ticks _ _ _ _ s (state_of own_memory c.run.new.machine) c.in-Ok.end c.write_last.ensures.times c.write_last.ensures.ticks c.none.ensures.times c.none.ensures.ticks
          printed.0.0 printed.0.1 c.in-Ok.ensures.machine c.in-Ok.ensures.end)
          c.in-Ok-write_last.ensures.text;
    })

pub returns-in_err-run_unlogged-clause-stopped : goal.returns-in_err-run_unlogged-clause-stopped
returns-in_err-run_unlogged-clause-stopped g c =
    stopped_by g.K.Sink.took (g.C.Chooser.next c.args.chooser.now) c.args.asked.ticks (state_of own_memory c.args.machine.now) _ _ _ c.in_err-run_unlogged.field-0.0 c.from_residual.result c.in_err-run_unlogged.ensures.part
    (elim c.in_err-run_unlogged.ensures.failed [
      | inl rose ↦ inl rose
      | inr last ↦ inr (inr (inr (last.0, (c.in_err-run_unlogged.field-0.0, last.1))))
    ])
    c.from_residual.ensures.1

pub returns-in_err-file-clause-stopped : goal.returns-in_err-file-clause-stopped
returns-in_err-file-clause-stopped g c =
    let none = g.met.K.Sink.took_none c.args.output.now in
    passed_on g.K.Sink.took (g.C.Chooser.next c.args.chooser.now) c.args.asked.ticks (state_of own_memory c.args.machine.now) _ _ _ c.from_residual-in_err-file.result (λ cause. cause)
    (unstarted g.K.Sink.took (g.C.Chooser.next c.args.chooser.now) c.args.asked.ticks (state_of own_memory c.args.machine.now) _ _ c.in_err-file.field-0.0 none c.in_err-file.ensures.refused (inr (inl c.in_err-file.ensures.failed)))
    c.from_residual-in_err-file.ensures.1

pub returns-in-Err-clause-stopped : goal.returns-in-Err-clause-stopped
returns-in-Err-clause-stopped g c =
    stopped_as g.K.Sink.took (g.C.Chooser.next c.args.chooser.now) c.args.asked.ticks (state_of own_memory c.args.machine.now) _ _ _ c.in-Err.stopped c.closed_after.result c.in-Err.ensures.part
    (elim c.in-Err.ensures.failed [
      | inl rose ↦ inl rose
      | inr last ↦ elim last [
        | inl first ↦ inr (inr (inr (c.run.new.recorder.first, (c.in-Err.stopped, first))))
        | inr second ↦ elim second [
          | inl never ↦ absurd never
          | inr write ↦ inr (inr (inl (subst (λ (n : ℕ). Rose n (g.F.Outputs.write_failures c.closed_after.new.files)) c.in_ok-file.ensures.writes (c.closed_after.ensures.writes write))))
        ]
      ]
    ])
    c.closed_after.ensures.fault

pub returns-in-Err-finish-clause-stopped : goal.returns-in-Err-finish-clause-stopped
returns-in-Err-finish-clause-stopped g c =
    let s = state_of own_memory c.args.machine.now in
    stopped_as g.K.Sink.took (g.C.Chooser.next c.args.chooser.now) c.args.asked.ticks s _ _ _ c.in-Err-finish.stopped c.closed_after-in-Err-finish.result (whole_first g.K.Sink.took (g.C.Chooser.next c.args.chooser.now) c.args.asked.ticks s _ _ c.in-Ok.ensures.output)
    (inr (inr (inl (subst (λ (n : ℕ). Rose n (g.F.Outputs.write_failures c.closed_after-in-Err-finish.new.files)) c.in_ok-file.ensures.writes (c.closed_after-in-Err-finish.ensures.writes c.in-Err-finish.ensures.failed)))))
    c.closed_after-in-Err-finish.ensures.fault

pub returns-in_default-write_last-clause-stopped : goal.returns-in_default-write_last-clause-stopped
returns-in_default-write_last-clause-stopped g c =
    stopped_late g.K.Sink.took (g.C.Chooser.next c.args.chooser.now) c.args.asked.ticks (state_of own_memory c.args.machine.now) _ _ _ _ c.in-Ok.ensures.output refl
    (inr (inr (inl (subst (λ (n : ℕ). Rose n (g.F.Outputs.write_failures c.close_failed.new.files)) c.in_ok-file.ensures.writes (c.close_failed.ensures.writes c.in_default-write_last.ensures.failed)))))

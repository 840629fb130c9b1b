use Rattle.std.proofs.Common.{◌<◌, ap, ◌++◌, List, ℕ, flat_map, refl, subst, sym}
use Rattle.std.specs.Prelude.{IsPermutation}
use Rattle.devices.proofs.Moves.{moved}
use Rattle.recording.specs.Machines.{state_of}
use Rattle.recording.specs.Runs.{ran_by, stepped}
use Rattle.first_state.specs.OwnMemory.{own_memory}
use Rattle.vec_recorder.specs.RecordLines.{row_line}
use Rattle.vec_recorder.proofs.KeyOrderLaws.{owned}
use Rattle.vec_recorder.proofs.RunLaws.{counted, end_is}
use Rattle.vec_recorder.proofs.StopLaws.{passed_on, stopped_late, unstarted}
use Rattle.vec_recorder.proofs.runs.run_counted.Goals as goal

pub returns-clause-records : goal.returns-clause-records
returns-clause-records g c =
    let s = state_of own_memory c.args.machine.now in
    let rows = c.in_ok-end.both.second.table.rows.items in
    let sorted = c.sort_rows.new.rows in
    let same : IsPermutation rows sorted = subst (λ them. IsPermutation them sorted) c.as_mut_slice-rows.ensures.value c.sort_rows.ensures in
    let counts = counted (ran_by stepped c.args.asked.logged.ticks s).found _ rows sorted c.requires.rows c.in_ok-end.ensures.run.recorded.1 same in
    let ascend = c.ascend.ensures c.if-not-ascend.false in
    record {
      empty = c.in_ok-counts_file.counts_file;
      full = c.write_counts.new.file;
      first = c.created_file.new.files;
      last = c.run_watched.new.files;
      made = c.in_ok-counts_file.ensures.created;
      others = c.in_ok-end.ensures.changes;
      ended = c.close.ensures.closed;
      says = record {
        rows = sorted;
        ascend = ascend;
        own = owned (ran_by stepped c.args.asked.logged.ticks s).found sorted ascend counts;
        counts = counts;
        taken = moved g.F.Created.Sink.took _ _ _ _
            (ap (λ (l : List ℕ). flat_map row_line sorted ++ l)
            (end_is stepped c.args.asked.logged.ticks s (state_of own_memory c.run_watched.new.machine) sorted c.in_ok-end.end counts c.in_ok-end.ensures.run.machine c.in_ok-end.ensures.run.end))
            c.in-Ok.ensures.text;
      };
    }

pub returns-in_err-counts_file-clause-stopped : goal.returns-in_err-counts_file-clause-stopped
returns-in_err-counts_file-clause-stopped g c =
    let none = g.met.K.Sink.took_none c.args.output.now in
    passed_on g.K.Sink.took stepped c.args.asked.logged.ticks (state_of own_memory c.args.machine.now) _ _ _ c.from_residual.result (λ cause. cause)
    (unstarted g.K.Sink.took stepped c.args.asked.logged.ticks (state_of own_memory c.args.machine.now) _ _ c.in_err-counts_file.field-0.0 none c.in_err-counts_file.ensures.refused tt)
    c.from_residual.ensures.1

pub returns-in_err-end-clause-stopped : goal.returns-in_err-end-clause-stopped
returns-in_err-end-clause-stopped g c =
    passed_on g.K.Sink.took stepped c.args.asked.logged.ticks (state_of own_memory c.args.machine.now) _ _ _ c.from_residual-in_err-end.result (λ _. tt)
    c.in_err-end.ensures.stopped c.from_residual-in_err-end.ensures.1

pub returns-then-not-ascend-clause-stopped : goal.returns-then-not-ascend-clause-stopped
returns-then-not-ascend-clause-stopped g c =
    stopped_late g.K.Sink.took stepped c.args.asked.logged.ticks (state_of own_memory c.args.machine.now) _ _ _ _ c.in_ok-end.ensures.run.output refl tt

pub returns-in_default-clause-stopped : goal.returns-in_default-clause-stopped
returns-in_default-clause-stopped g c =
    stopped_late g.K.Sink.took stepped c.args.asked.logged.ticks (state_of own_memory c.args.machine.now) _ _ _ _ c.in_ok-end.ensures.run.output refl tt

pub returns-in_err-end-clause-kept : goal.returns-in_err-end-clause-kept
returns-in_err-end-clause-kept g c = λ more.
    g.met.F.Outputs.kept_more _ _ _ c.in_ok-counts_file.ensures.kept
    (c.in_err-end.ensures.kept (subst (λ (n : ℕ). n < g.F.Outputs.failures c.run_watched.new.files) (sym c.in_ok-counts_file.ensures.unfailed) more))

use Rattle.std.proofs.Common.{◌+◌, ◌%◌, ◌^◌, refl}
use Rattle.std.proofs.lemmas.Result.{on_ok_weaker}
use Rattle.recording.specs.Machines.{state_of}
use Rattle.memory_changes.specs.Changes.{changes_at, one_more}
use Rattle.memory_changes.proofs.Kept.{kept, of_slices}
use Rattle.memory_changes.proofs.changes.ChangesRecorder.after_step.Goals as goal

pub returns-clause-recorded : goal.returns-clause-recorded
returns-clause-recorded g c =
    let now = c.args.self.now in
    let memory = g.M.UserBytes.memory c.args.machine.now.memory in
    on_ok_weaker c.write_changes.result
    (λ printed. λ before found prepared made. kept g.K.Sink.took before now _ found (state_of g.M.UserBytes.memory c.args.machine.now) c.args._end c.args.ticks prepared made refl refl refl
    (of_slices g.K.Sink.took now.sink c.write_changes.new.sink
    (λ m places. changes_at (one_more now.number) ((now.ticks + c.args.ticks) % 2 ^ 64) now.pc m memory places)
    c.as_slice-before.result.now now.before.items c.as_slice-places.result.now now.places.items c.as_slice-before.ensures.value c.as_slice-places.ensures.value printed))
    c.write_changes.ensures.lines

use Rattle.std.proofs.Common.{inl, refl}
use Rattle.recording.specs.Machines.{state_of}
use Rattle.recording.specs.Runs.{stepped}
use Rattle.first_state.specs.OwnMemory.{own_memory}
use Rattle.vec_recorder.proofs.StopLaws.{widened_or, wider_cause}
use Rattle.vec_recorder.proofs.runs.run_machine.Goals as goal

pub returns-in_default-clause-records : goal.returns-in_default-clause-records
returns-in_default-clause-records g c = rw (c.requires.unchosen c.in_default.is, c.in_default.is) c.run_unchosen.ensures.records

pub returns-in_default-clause-stopped : goal.returns-in_default-clause-stopped
returns-in_default-clause-stopped g c =
    rw c.in_default.is
    (widened_or g.K.Sink.took stepped c.args.asked.ticks (state_of own_memory c.args.machine.now) _ _ _ _ _ c.run_unchosen.result (wider_cause refl refl (λ other. inl other))
    c.run_unchosen.ensures.stopped)

use Rattle.recording.proofs.Runs.{part_put_out, same_put_out}
use Rattle.recording.proofs.running.take_output.Goals as goal

pub returns-in_default-clause-part : goal.returns-in_default-clause-part
returns-in_default-clause-part g c =
    let part = c.in_default.ensures.part in
    same_put_out g.K.Sink.took _ _ _ _ c.as_slice.ensures.value (part_put_out g.K.Sink.took _ _ part.0 _ part.1.1)

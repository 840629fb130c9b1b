use Rattle.devices.proofs.Moves.{on_err}
use Rattle.vec_recorder.proofs.StopLaws.{failed_by}
use Rattle.vec_recorder.proofs.runs.run_unlogged.Goals as goal

pub returns-in_err-end-clause-part : goal.returns-in_err-end-clause-part
returns-in_err-end-clause-part g c = on_err c.from_residual.result c.in_err-end.ensures.part

pub returns-in_err-end-clause-failed : goal.returns-in_err-end-clause-failed
returns-in_err-end-clause-failed g c = failed_by c.from_residual.result c.in_err-end.field-0.0 g.O.Recorder.failed c.run.new.recorder c.in_err-end.ensures.failed c.from_residual.ensures.1

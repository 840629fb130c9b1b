use Rattle.std.proofs.lemmas.Result.{on_ok_weaker}
use Rattle.commit_log.proofs.log.LogRecorder.after_step.Goals as goal

pub returns-clause-recorded : goal.returns-clause-recorded
returns-clause-recorded g c =
    on_ok_weaker c.log_instruction.result (λ kept. λ before found prepared made. kept before found c.args._ticks prepared made) c.log_instruction.ensures.logged

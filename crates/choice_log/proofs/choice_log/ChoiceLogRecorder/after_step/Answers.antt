use Rattle.std.proofs.lemmas.Result.{on_ok_weaker}
use Rattle.choice_log.proofs.choice_log.ChoiceLogRecorder.after_step.Goals as goal

pub returns-clause-recorded : goal.returns-clause-recorded
returns-clause-recorded g c =
    on_ok_weaker c.list_choices.result (λ kept. λ before found prepared made. kept before found c.args._ticks prepared made) c.list_choices.ensures.listed

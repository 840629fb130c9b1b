use Rattle.rv_model.proofs.step.laws.steps_write_one_register.Goals as goal
use Rattle.rv_model.proofs.step_lemmas.Targets.{writes_target}

pub returns : goal.returns
returns c = writes_target

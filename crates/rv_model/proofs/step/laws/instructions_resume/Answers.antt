-- The laws about vector instructions and steps that stop and are executed again.
use Rattle.rv_model.proofs.step_lemmas.GoesOn as on
use Rattle.rv_model.proofs.step.laws.instructions_resume.Goals as goal

pub returns-clause-again : goal.returns-clause-again
returns-clause-again c = on.instructions_go_on

pub returns-clause-step : goal.returns-clause-step
returns-clause-step c = on.vector_steps_go_on

pub returns-clause-fetched : goal.returns-clause-fetched
returns-clause-fetched c = on.steps_go_on

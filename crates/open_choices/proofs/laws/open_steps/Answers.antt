use Rattle.open_choices.proofs.OpenSteps.{filled_step_is_open, other_length_is_open, step_is_open, trimmed_step_is_open}
use Rattle.open_choices.proofs.laws.open_steps.Goals as goal

pub returns-clause-step : goal.returns-clause-step
returns-clause-step c = step_is_open

pub returns-clause-filled : goal.returns-clause-filled
returns-clause-filled c = filled_step_is_open

pub returns-clause-trimmed : goal.returns-clause-trimmed
returns-clause-trimmed c = trimmed_step_is_open

pub returns-clause-length : goal.returns-clause-length
returns-clause-length c = other_length_is_open

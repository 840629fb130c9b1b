-- The laws about the ticks of steps.
use Rattle.rv_model.proofs.step_lemmas.StepTicks as law
use Rattle.rv_model.proofs.step.laws.steps_take_ticks.Goals as goal

pub returns-clause-ticks : goal.returns-clause-ticks
returns-clause-ticks c = law.steps_take_ticks

pub returns-clause-scalar : goal.returns-clause-scalar
returns-clause-scalar c = law.scalar_steps_take_one_tick

-- The laws about the ticks of vector instructions.
use Rattle.rv_model.proofs.step_lemmas.Ticks as law
use Rattle.rv_model.proofs.step.laws.ticks_and_cuts.Goals as goal

pub returns : goal.returns
returns c = law.vector_steps_take_ticks

-- The output of one instruction.
use Rattle.rv_model.proofs.step_lemmas.Effects as law
use Rattle.rv_model.proofs.machine.laws.output_only_grows.Goals as goal

pub returns : goal.returns
returns c = law.output_grows_within

use Rattle.rv_model.proofs.step_lemmas.LegalEnds as law
use Rattle.rv_model.proofs.step.laws.legal_instructions_execute.Goals as goal

pub returns : goal.returns
returns c = law.legal_instructions_execute

-- The laws about registers and memory that steps of vector instructions leave unchanged.
use Rattle.rv_model.proofs.step.laws.steps_keep_others.Goals as goal
use Rattle.rv_model.proofs.step_lemmas.KeptAccesses.{accesses_keep_others}
use Rattle.rv_model.proofs.step_lemmas.KeptSteps.{steps_keep_others}

pub returns-clause-operations : goal.returns-clause-operations
returns-clause-operations c = steps_keep_others

pub returns-clause-accesses : goal.returns-clause-accesses
returns-clause-accesses c = accesses_keep_others

-- Each instruction preserves a valid vector length and the permissions.
use Rattle.rv_model.proofs.step_lemmas.Configurations as law
use Rattle.rv_model.proofs.machine.laws.preserved_configurations.Goals as goal

pub returns-clause-length : goal.returns-clause-length
returns-clause-length c = law.step_keeps_configuration

pub returns-clause-permissions : goal.returns-clause-permissions
returns-clause-permissions c = law.step_keeps_permissions

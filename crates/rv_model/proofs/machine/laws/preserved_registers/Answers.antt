-- Both laws about one instruction.
use Rattle.rv_model.proofs.step_lemmas.Effects as law
use Rattle.rv_model.proofs.machine.laws.preserved_registers.Goals as goal

pub returns-clause-fault : goal.returns-clause-fault
returns-clause-fault c = law.faults_write_no_register

pub returns-clause-first : goal.returns-clause-first
returns-clause-first c = law.first_register_stays

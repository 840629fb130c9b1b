-- Results of transfers for each byte.
use Rattle.rv_model.proofs.access_lemmas.InFile.{transfers_lie_in_file}
use Rattle.rv_model.proofs.access_lemmas.TransferBytes as law
use Rattle.rv_model.proofs.step.byte_laws.bytes_of_transfers.Goals as goal

pub returns-clause-loaded : goal.returns-clause-loaded
returns-clause-loaded c = law.loads_by_transfer

pub returns-clause-stored : goal.returns-clause-stored
returns-clause-stored c = law.stores_by_transfer

pub returns-clause-inside : goal.returns-clause-inside
returns-clause-inside c = transfers_lie_in_file

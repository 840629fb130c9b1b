use Rattle.rv_model.proofs.instruction_lemmas.Scans.{no_two_rows}
use Rattle.rv_decode.proofs.laws.one_row.Goals as goal

pub returns : goal.returns
returns c = no_two_rows

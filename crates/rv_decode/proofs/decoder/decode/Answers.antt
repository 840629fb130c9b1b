use Rattle.std.proofs.Common.{arith}
use Rattle.rv_model.proofs.instruction_lemmas.Scans.{found_row, no_row}
use Rattle.rv_model.proofs.instruction_lemmas.RoundTrips.{decoded}
use Rattle.rv_decode.proofs.decoder.decode.Goals as goal

pub returns-clause-word : goal.returns-clause-word
returns-clause-word c = decoded c.args.word c.by_opcode.result c.by_opcode.ensures (omega arith)

pub returns-clause-found : goal.returns-clause-found
returns-clause-found c = found_row c.args.word c.by_opcode.result c.by_opcode.ensures

pub returns-clause-none : goal.returns-clause-none
returns-clause-none c = no_row c.args.word c.by_opcode.result c.by_opcode.ensures

use Rattle.std.proofs.Common.{sym, arith}
use Rattle.rv_decode.proofs.Groups.{no_other_operation}
use Rattle.rv_decode.proofs.decoder.decode_other_operation.Goals as goal

pub returns-in_default-clause-row : goal.returns-in_default-clause-row
returns-in_default-clause-row c = sym (no_other_operation c.args.word (omega arith, (omega arith, (omega arith, (omega arith, (omega arith, (omega arith, tt)))))))

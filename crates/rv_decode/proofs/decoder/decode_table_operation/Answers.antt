use Rattle.std.proofs.Common.{◌∙◌, sym, arith}
use Rattle.rv_decode.proofs.Groups.{no_other_operation}
use Rattle.rv_decode.proofs.Scan.{no_place}
use Rattle.rv_decode.proofs.decoder.decode_table_operation.Goals as goal

pub returns-in_default-clause-none : goal.returns-in_default-clause-none
returns-in_default-clause-none c =
    no_place c.args.word c.requires (omega arith, (omega arith, (omega arith, (omega arith, (omega arith, (omega arith, tt))))))
    ∙ sym (no_other_operation c.args.word (omega arith, (omega arith, (omega arith, (omega arith, (omega arith, (omega arith, tt)))))))

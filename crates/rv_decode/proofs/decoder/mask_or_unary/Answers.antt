use Rattle.std.proofs.Common.{◌∙◌, arith}
use Rattle.rv_decode.proofs.Groups.{mask_other}
use Rattle.rv_decode.proofs.decoder.mask_or_unary.Goals as goal

pub returns-in_default-clause-row : goal.returns-in_default-clause-row
returns-in_default-clause-row c = c.mask_logic.ensures.row ∙ mask_other c.args.word (omega arith, (omega arith, (omega arith, (omega arith, tt))))

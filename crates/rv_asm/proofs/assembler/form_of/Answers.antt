use Rattle.rv_model.specs.lending.NameTable.{slots_of}
use Rattle.std.proofs.Common.{refl}
use Rattle.rv_asm.proofs.Assembling.{slots_of_row}
use Rattle.rv_asm.proofs.assembler.form_of.Goals as goal

pub returns : goal.returns
returns c =
    slots_of_row c.args.word c.row_of_word.result c.row_at-form.result (slots_of c.row_at-form.result.1) c.ranges.word.fits c.row_of_word.ensures.first c.row_at-form.ensures.value refl

use Rattle.std.proofs.Common.{ap, sym, ◌∙◌}
use Rattle.rv_model.specs.assembler.Table.{canonical, spelled}
use Rattle.rv_model.proofs.assembler_lemmas.ListedTexts.{listed}
use Rattle.rv_model.proofs.assembler_lemmas.Spellings.{canonical_is_listed, spelled_is_listed}
use Rattle.rv_asm.proofs.Assembling.{canonical_parts}
use Rattle.rv_asm.proofs.WordLaws.{word_again}
use Rattle.rv_asm.proofs.assembler.text_of.Goals as goal

pub returns-clause-text : goal.returns-clause-text
returns-clause-text c =
    canonical_parts c.args.word c.row_of_word.result c.row_at-form.result c.slots_of.result.now c.clear.new.self.bytes c.put_name.new.out.bytes c.put_operands_text.new.text.bytes c.row_of_word.ensures.first c.row_at-form.ensures.value c.slots_of.ensures.slots c.clear.ensures c.put_name.ensures.bytes c.put_operands_text.ensures
    ∙ sym (canonical_is_listed c.args.word c.ranges.word.fits)

pub returns-clause-again : goal.returns-clause-again
returns-clause-again c =
    let word = c.args.word in
    ap spelled (returns-clause-text c) ∙ spelled_is_listed (canonical word) ∙ ap listed (canonical_is_listed word c.ranges.word.fits) ∙ word_again word c.ranges.word.fits

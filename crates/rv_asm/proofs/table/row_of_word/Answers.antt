use Rattle.std.proofs.Common.{◌∙◌, ap, unwrap_or, Option, ℕ}
use Rattle.rv_model.specs.declared.assembler.mnemonics.TheConstants.{NAME_COUNT}
use Rattle.rv_asm.proofs.table.row_of_word.Goals as goal
use Rattle.rv_model.specs.lending.NameTable.{row_of_word}

pub returns-clause-first : goal.returns-clause-first
unfolding row_of_word
returns-clause-first c = c.unwrap_or.ensures ∙ ap (λ (o : Option ℕ). unwrap_or o NAME_COUNT) c.row_matching.ensures.first

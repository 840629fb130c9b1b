-- The text of a word by the table of mnemonics assembles to that word
use Rattle.std.proofs.Common.{◌≡◌, ℕ, ◌^◌, ◌<◌, Ok}
use Rattle.rv_model.specs.lending.NameTable.{row_of_word}
use Rattle.rv_model.proofs.assembler_lemmas.ListedTexts.{listed, listed_canonical}
use Rattle.rv_model.proofs.assembler_lemmas.RowOfWord.{row_matches}
use Rattle.rv_asm.proofs.RowLaws.{text_again}

-- assembling the text of a word returns that word
pub word_again : (word : ℕ) → word < 2 ^ 32 → listed (listed_canonical word) ≡ Ok word
unfolding listed_canonical
word_again word small = let m = row_matches word in text_again (row_of_word word) word m.within small m.bits

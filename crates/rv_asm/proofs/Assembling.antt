-- The word that a mnemonic and its operands encode, and the canonical text of a word by the code's table
use Rattle.std.proofs.Common.{◌≡◌, ℕ, ◌+◌, ◌<◌, ◌^◌, List, [], ◌∷◌, ◌++◌, length, Option, Some, None, Result, Ok, Err, sym, ap, ap₂, ◌∙◌}
use Rattle.std.specs.Option.{option_map_or}
use Rattle.std.specs.Prelude.{IfOk, IfErr}
use Rattle.rv_model.specs.assembler.Tokens.{Token}
use Rattle.rv_model.specs.declared.assembler.forms.Slot.{Slot}
use Rattle.rv_model.specs.declared.assembler.mnemonics.Mnemonic.{Mnemonic}
use Rattle.rv_model.specs.assembler.Table.{read_operands, operands_text, spelling}
use Rattle.rv_asm.specs.Places.{rest, Answers}
use Rattle.rv_asm.specs.declared.fault.AsmFault.{AsmFault}
use Rattle.rv_model.specs.lending.NameTable.{slots_of, unpadded, row_named, row_at, name_at, slots_at, bits_at, row_of_word}
use Rattle.rv_model.proofs.assembler_lemmas.Spellings.{spelling_is_listed}
use Rattle.rv_model.proofs.assembler_lemmas.ListedTexts.{listed_by, listed, text_at, listed_canonical}

-- the word that the operands' tokens encode, by the row of the mnemonic
abbrev pub spelled_with : ℕ → Token → List Token → Option ℕ → Result ℕ ℕ
spelled_with end name ts row = option_map_or (λ r. read_operands end (bits_at r) (slots_at r) ts) row (Err name.column)

pub spelled_nothing : (text : List ℕ) (column : ℕ) → rest text 0 ≡ [] → column ≡ length text + 1 → listed text ≡ Err column
unfolding listed
spelled_nothing text column h e = ap (listed_by (length text + 1)) h ∙ ap (λ (n : ℕ). Err n) (sym e)

pub spelled_unknown : (text : List ℕ) (name : Token) (ts : List Token) (column : ℕ) → rest text 0 ≡ name ∷ ts → row_named name.text ≡ None → column ≡ name.column → listed text ≡ Err column
unfolding listed
spelled_unknown text name ts column h none e = ap (listed_by (length text + 1)) h ∙ ap (spelled_with (length text + 1) name ts) none ∙ ap (λ (n : ℕ). Err n) (sym e)

pub spelled_known : (text : List ℕ) (name : Token) (ts : List Token) (row : ℕ) (m : Mnemonic) (slots : List Slot) → rest text 0 ≡ name ∷ ts → row_named name.text ≡ Some row → m ≡ row_at row → slots ≡ slots_of m.1
    → listed text ≡ read_operands (length text + 1) m.2 slots ts
unfolding listed bits_at slots_at
spelled_known text name ts row m slots h some is with_slots =
    ap (listed_by (length text + 1)) h
    ∙ ap (spelled_with (length text + 1) name ts) some
    ∙ ap (λ (n : Mnemonic). read_operands (length text + 1) n.2 (slots_of n.1) ts) (sym is)
    ∙ ap (λ (ss : List Slot). read_operands (length text + 1) m.2 ss ts) (sym with_slots)

pub answers : (r : Result ℕ AsmFault) (read total : Result ℕ ℕ) → total ≡ read → Answers r read → IfOk r (λ word. total ≡ Ok word) × IfErr r (λ fault. total ≡ Err fault.column)
answers (Ok w) read total e a = (e ∙ a, tt)
answers (Err f) read total e a = (tt, e ∙ a)

pub canonical_parts : (word row : ℕ) (m : Mnemonic) (slots : List Slot) (start named whole : List ℕ) → row ≡ row_of_word word → m ≡ row_at row → slots ≡ slots_of m.1
    → start ≡ [] → named ≡ start ++ unpadded m.0 → whole ≡ named ++ operands_text slots word → whole ≡ listed_canonical word
unfolding listed_canonical text_at name_at slots_at
canonical_parts word row m slots start named whole r is with_slots a b c =
    c
    ∙ ap₂ (λ (t : List ℕ) (ss : List Slot). t ++ operands_text ss word) (b ∙ ap (λ (t : List ℕ). t ++ unpadded m.0) a) with_slots
    ∙ ap (λ (n : Mnemonic). unpadded n.0 ++ operands_text (slots_of n.1) word) is
    ∙ ap (λ (k : ℕ). text_at k word) r

pub slots_of_row : (word row : ℕ) (m : Mnemonic) (slots : List Slot) → word < 2 ^ 32 → row ≡ row_of_word word → m ≡ row_at row → slots ≡ slots_of m.1
    → slots ≡ (spelling word).slots
unfolding slots_at
slots_of_row word row m slots small r is with_slots =
    with_slots ∙ ap (λ (n : Mnemonic). slots_of n.1) is ∙ ap slots_at r ∙ sym (spelling_is_listed word small)

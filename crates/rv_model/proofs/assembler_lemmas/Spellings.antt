-- The instruction table and the code's table have the same names, slots and bits. So a text gives the same word by both, and a word has
-- the same text.
use Rattle.std.proofs.Common.{◌≡◌, ◌⊎◌, ℕ, ◌-◌, ◌+◌, ◌^◌, ◌<◌, Bool, true, false, not, cond, eqb, nat_lt, ◌&&◌, List, [], ◌∷◌, ◌++◌, length, map, replicate, get_or, Option, Some, None, Result, Err, refl, sym, ap, subst, ◌∙◌, arith}
use Rattle.std.specs.Prelude.{find, position, IsSome}
use Rattle.std.specs.List.{list_all}
use Rattle.std.specs.Option.{option_map, option_map_or, IsSomeAnd}
use Rattle.std.specs.Str.{bytes_eq}
use Rattle.std.proofs.lemmas.Bool.{and_parts, and_from, true≢false}
use Rattle.std.proofs.lemmas.List.Quantifiers.{position-Some}
use Rattle.std.proofs.lemmas.List.{get_or-map}
use Rattle.std.proofs.lemmas.Slice.Eq.{bytes_eq-Decides}
use Rattle.std.proofs.lemmas.Bool.Decides.{nat_tests}
use Rattle.rv_model.specs.declared.assembler.forms.Form.TheVariants as form
use Rattle.rv_model.specs.declared.assembler.forms.Slot.{Slot}
use Rattle.rv_model.specs.declared.assembler.mnemonics.Mnemonic.{Mnemonic}
use Rattle.rv_model.specs.declared.assembler.mnemonics.TheConstants.{MNEMONICS, NAME_COUNT}
use Rattle.rv_model.specs.declared.instructions.instruction.Instr.{Instr}
use Rattle.rv_model.specs.instructions.Table.{scan, table}
use Rattle.rv_model.specs.assembler.InstructionTexts.{mnemonic, slots}
use Rattle.rv_model.specs.assembler.Tokens.{Token, tokens, in_run, begins_run, with_first_byte}
use Rattle.rv_model.specs.assembler.Table.{Spelling, spellings, spelling_of, directive, read_operands, spelled_by, spelled, text_by, has_name, spelling, canonical}
use Rattle.rv_model.specs.lending.NameTable.{slots_of, unpadded, row_named, row_at, bits_at, slots_at, name_at, row_of_word}
use Rattle.rv_model.proofs.assembler_lemmas.Found.{found_is, found_passes}
use Rattle.rv_model.proofs.assembler_lemmas.ListedTexts.{text_at, listed_by, listed, listed_canonical, HasName, IsNamed}
use Rattle.rv_model.proofs.assembler_lemmas.NamedOperands.{has_slots}
use Rattle.rv_model.proofs.assembler_lemmas.NamedWords.{is_directive, is_named, only_directive_is_left, word_with_name_is_named}
use Rattle.rv_model.proofs.assembler_lemmas.RowOfWord.{row_matches}

-- ---- the two tables have the same names, with the same slots and bits

-- the bits and the slots of the first spelling with the name of a row of the code's table, and those of the row
abbrev pub spelled_slots : Option Spelling → Option (ℕ × List Slot)
spelled_slots s = option_map (λ s. (s.bits, s.slots)) s

abbrev slots_by_name : Mnemonic → Option (ℕ × List Slot)
slots_by_name m = spelled_slots (find (λ s. bytes_eq s.name (unpadded m.0)) spellings)

abbrev own_slots : Mnemonic → Option (ℕ × List Slot)
own_slots m = Some (m.2, slots_of m.1)

rows_are_spelled : map slots_by_name MNEMONICS ≡ map own_slots MNEMONICS
unfolding spellings table
rows_are_spelled = refl

abbrev is_some : Option ℕ → Bool
is_some None = false
is_some (Some n) = true

abbrev has_row : Spelling → Bool
has_row s = is_some (row_named s.name)

-- the name of each spelling is the name of a row of the code's table
each_has_row : list_all has_row spellings ≡ true
unfolding spellings table row_named
each_has_row = refl

-- ---- tokens have no spaces

abbrev pub no_spaces : List ℕ → Bool
no_spaces [] = true
no_spaces (c ∷ cs) = not (eqb c 32) && no_spaces cs

abbrev pub clear : List Token → Bool
clear ts = list_all (λ t. no_spaces t.text) ts

clear_with : (space run : Bool) (p c : ℕ) (ts : List Token) → eqb c 32 ≡ space → clear ts ≡ true
    → clear (cond space ts (cond run (with_first_byte p c ts) (record { column = p; text = c ∷ [] } ∷ ts))) ≡ true
clear_with space run p c ts e h = search (arith, nat_tests, and_from, and_parts)

tokens_clear : (p : ℕ) (text : List ℕ) → clear (tokens p text) ≡ true
unfolding tokens
tokens_clear p [] = refl
tokens_clear p (c ∷ cs) = clear_with (eqb c 32) (in_run c && begins_run cs) p c (tokens (p + 1) cs) refl (tokens_clear (p + 1) cs)

only_spaces : (k : ℕ) → unpadded (replicate k 32) ≡ []
only_spaces k = search (arith, nat_tests)

unpadded_again : (n : List ℕ) (k : ℕ) → no_spaces n ≡ true → unpadded (n ++ replicate k 32) ≡ n
unpadded_again [] k h = only_spaces k
unpadded_again (c ∷ cs) k h =
    let parts = and_parts (not (eqb c 32)) (no_spaces cs) h in
    kept (eqb c 32) c cs (unpadded (cs ++ replicate k 32)) parts.0 (unpadded_again cs k parts.1)
  where
    kept : (space : Bool) (c : ℕ) (cs us : List ℕ) → not space ≡ true → us ≡ cs → cond space [] (c ∷ us) ≡ c ∷ cs
    kept true c cs us h e = absurd cc
    kept false c cs us h e = ap (λ (x : List ℕ). c ∷ x) e

-- ---- a search for a name has the same result in both tables

abbrev pub with_row : ℕ → ℕ → List Token → Option ℕ → Result ℕ ℕ
with_row end column ts row = option_map_or (λ r. read_operands end (bits_at r) (slots_at r) ts) row (Err column)

abbrev pub with_spelling : ℕ → ℕ → List Token → Option Spelling → Result ℕ ℕ
with_spelling end column ts s = option_map_or (λ s. read_operands end s.bits s.slots ts) s (Err column)

abbrev pub spelling_named : List ℕ → Option Spelling
spelling_named n = find (λ s. bytes_eq s.name n) spellings

within_16 : (long : Bool) (found : Option ℕ) (row : ℕ) → cond long None found ≡ Some row → found ≡ Some row
within_16 long found row h = search (arith, nat_tests)

none : Mnemonic
none = record { 0 = []; 1 = form.Plain; 2 = 0 }

row_has_name : (n : List ℕ) (row : ℕ) → no_spaces n ≡ true → row_named n ≡ Some row → (row < length MNEMONICS) × (unpadded (row_at row).0 ≡ n)
unfolding row_named row_at none
row_has_name n row h found =
    let padded = n ++ replicate (16 - length n) 32 in
    let p = λ (m : Mnemonic). bytes_eq m.0 padded in
    let at = position-Some p MNEMONICS row none (within_16 (nat_lt 16 (length n)) (position p MNEMONICS) row found) in
    (at.0, ap unpadded ((bytes_eq-Decides (get_or MNEMONICS row none).0 padded).0 at.1) ∙ unpadded_again n (16 - length n) h)

row_spelled : (row : ℕ) → row < length MNEMONICS → slots_by_name (row_at row) ≡ own_slots (row_at row)
unfolding row_at none
row_spelled row lt =
    sym (get_or-map slots_by_name MNEMONICS row none None lt)
    ∙ ap (λ (all : List (Option (ℕ × List Slot))). get_or all row None) rows_are_spelled
    ∙ get_or-map own_slots MNEMONICS row none None lt

same_reading : (end column : ℕ) (ts : List Token) (row : ℕ) (s : Option Spelling) → spelled_slots s ≡ own_slots (row_at row) → with_spelling end column ts s ≡ with_row end column ts (Some row)
unfolding bits_at slots_at
same_reading end column ts row s h = search (arith, nat_tests)

not_some : (o : Option ℕ) → o ≡ None → is_some o ≡ true → ⊥
not_some o e h = cc

by_row : (end column : ℕ) (ts : List Token) (n : List ℕ) (row : Option ℕ) → no_spaces n ≡ true → row_named n ≡ row → with_spelling end column ts (spelling_named n) ≡ with_row end column ts row
by_row end column ts n None h e = search (arith, nat_tests, bytes_eq-Decides, each_has_row, found_is, found_passes, not_some)
by_row end column ts n (Some row) h e =
    let P : List ℕ → Type 0 = λ x. spelled_slots (spelling_named x) ≡ own_slots (row_at row) in
    same_reading end column ts row (spelling_named n) (subst P (row_has_name n row h e).1 (row_spelled row (row_has_name n row h e).0))

spelled_is_listed_by : (end : ℕ) (ts : List Token) → clear ts ≡ true → spelled_by end ts ≡ listed_by end ts
spelled_is_listed_by end [] h = refl
spelled_is_listed_by end (t ∷ ts) h = by_row end t.column ts t.text (row_named t.text) (and_parts (no_spaces t.text) (clear ts) h).0 refl

-- a text gives the same word by both tables
pub spelled_is_listed : (text : List ℕ) → spelled text ≡ listed text
unfolding spelled listed
spelled_is_listed text = spelled_is_listed_by (length text + 1) (tokens 1 text) (tokens_clear 1 text)

-- ---- the text of a word

abbrev pub NoName : ℕ → Type 0
NoName w = HasName w → ⊥

abbrev pub spelling_by : Bool → Option Instr → Spelling
spelling_by named i = cond named (option_map_or spelling_of i directive) directive

unnamed_none : (w : ℕ) → scan table w ≡ None → NoName w
unnamed_none w e has = search (arith, nat_tests)

some_is : (i : Instr) → IsSome (Some i)
some_is i = refl

pub cases_named : (w : ℕ) → HasName w ⊎ (NoName w × (spelling_by (has_name w) (scan table w) ≡ directive))
cases_named w = search (arith, nat_tests, some_is, true≢false, unnamed_none)

pub canonical_directive : (w : ℕ) → NoName w × (spelling_by (has_name w) (scan table w) ≡ directive) → canonical w ≡ text_by directive w
unfolding canonical
canonical_directive w h = ap (λ (s : Spelling). text_by s w) h.1

text_of_some : (w row : ℕ) (o : Option Instr) → IsSomeAnd o (λ i. mnemonic i ≡ name_at row) → IsSomeAnd o (λ i. slots i ≡ slots_at row) → text_by (option_map_or spelling_of o directive) w ≡ text_at row w
unfolding text_at
text_of_some w row o name ss = search (arith, nat_tests)

by_its_name : (w : ℕ) → HasName w → IsNamed w (listed_canonical w) → canonical w ≡ listed_canonical w
unfolding canonical
by_its_name w has named = search (arith, nat_tests, has_slots, text_of_some)

pub canonical_named : (w : ℕ) → HasName w → IsNamed w (canonical w)
canonical_named w has = subst (IsNamed w) (sym (by_its_name w has (is_named w has))) (is_named w has)

-- a word has the same text by both tables
pub canonical_is_listed : (w : ℕ) → w < 2 ^ 32 → canonical w ≡ listed_canonical w
canonical_is_listed w small = search (arith, nat_tests, by_its_name, canonical_directive, cases_named, is_directive, is_named)

slots_of_some : (row : ℕ) (o : Option Instr) → IsSomeAnd o (λ i. slots i ≡ slots_at row) → (option_map_or spelling_of o directive).slots ≡ slots_at row
slots_of_some row o h = search (arith, nat_tests)

slots_of_directive : slots_at NAME_COUNT ≡ directive.slots
unfolding slots_at row_at
slots_of_directive = refl

-- and the same slots
pub spelling_is_listed : (w : ℕ) → w < 2 ^ 32 → (spelling w).slots ≡ slots_at (row_of_word w)
spelling_is_listed w small =
    search (arith, nat_tests, cases_named, has_slots, only_directive_is_left, row_matches, slots_of_directive, slots_of_some, word_with_name_is_named)

-- By the code's table, the text of an instruction has its name, and the text of any other word is `.word` and digits
use Rattle.std.proofs.Common.{◌≡◌, ◌≢◌, ◌⊎◌, ℕ, ◌^◌, ◌<◌, Bool, true, false, cond, nat_eq, nat_lt, length, get_or, position, unwrap_or, Option, Some, None, refl, sym, ap, subst, ◌∙◌, arith, inl, inr, lit<}
use Rattle.std.specs.Prelude.{IsSome, IsNone}
use Rattle.std.specs.List.{position_or_len}
use Rattle.std.specs.Int.Bits.{bit_and}
use Rattle.std.proofs.lemmas.Bool.{cases_lt, cond-true, lt-ltb, eq-eqb, eqb-true, true≢false}
use Rattle.std.proofs.lemmas.Bool.Decides.{eqb_tells}
use Rattle.std.proofs.lemmas.List.Sums.{fails_before_first}
use Rattle.std.proofs.lemmas.Bool.Decides.{nat_tests}
use Rattle.rv_model.specs.declared.instructions.instruction.Instr.{Instr}
use Rattle.rv_model.specs.declared.assembler.mnemonics.TheConstants.{MNEMONICS, NAME_COUNT, ROW_COUNT}
use Rattle.rv_model.specs.assembler.Table.{text_by, directive, has_name}
use Rattle.rv_model.specs.instructions.Table.{table, scan}
use Rattle.rv_model.proofs.instruction_lemmas.Scans.{some_row, found, table_apart}
use Rattle.rv_model.proofs.assembler_lemmas.NamedOperations.{names_operation}
use Rattle.rv_model.proofs.assembler_lemmas.RowOfWord.{has_bits, row_matches}
use Rattle.rv_model.proofs.assembler_lemmas.Naming.{Pattern, names, none, named_count, in_names, name_at_row, bits_of_name, HasNameOf, word_of_row_has_name, name_of_row, fence_named}
use Rattle.rv_model.specs.lending.NameTable.{fixed_mask, slots_of, row_at, name_at, slots_at, row_of_word}
use Rattle.rv_model.proofs.assembler_lemmas.ListedTexts.{text_at, listed_canonical, IsFence, HasName, IsNamed}

none_is_not_some : (i : Instr) → None ≡ Some i → ⊥
none_is_not_some i e = cc

cases_fence : (w : ℕ) → IsFence w ⊎ (IsFence w → ⊥)
cases_fence w = search (arith, nat_tests, eqb_tells)

-- the first row that a word matches is at or before any other that it matches
matching_word_is_named : (w n : ℕ) → n < NAME_COUNT → has_bits w (get_or MNEMONICS n none) ≡ true → row_of_word w < NAME_COUNT
unfolding row_of_word
matching_word_is_named w n lt h =
    let first = position_or_len (has_bits w) MNEMONICS in
    elim (cases_lt n first) [
      | inl before ↦ absurd (true≢false (sym h ∙ fails_before_first (has_bits w) MNEMONICS n none before))
      | inr le ↦
          let below : first < ROW_COUNT = omega arith in
          let is : unwrap_or (position (has_bits w) MNEMONICS) NAME_COUNT ≡ first = ap (λ (o : Option ℕ). unwrap_or o NAME_COUNT) (cond-true (nat_lt first (length MNEMONICS)) (Some first) None (lt-ltb first ROW_COUNT below)) in
          subst (λ k. k < NAME_COUNT) (sym is) (omega arith)
    ]

-- a word with the bits of a name has this name or an earlier one
word_with_bits_is_named : (w : ℕ) → HasNameOf names w → row_of_word w < NAME_COUNT
word_with_bits_is_named w h =
    let lt : h.0 < NAME_COUNT = let P : ℕ → Type 0 = λ k. h.0 < k in subst P named_count h.1 in
    let P : Pattern → Type 0 = λ p. bit_and w p.0 ≡ p.1 in
    let is : bit_and w (fixed_mask (slots_of (get_or MNEMONICS h.0 none).1)) ≡ (get_or MNEMONICS h.0 none).2 = subst P (name_at_row h.0 lt) h.2 in
    matching_word_is_named w h.0 lt (eq-eqb (bit_and w (fixed_mask (slots_of (get_or MNEMONICS h.0 none).1))) (get_or MNEMONICS h.0 none).2 is)

-- the row of a word's name is the row of a name in the list
has_name_of : (w : ℕ) → row_of_word w < NAME_COUNT → HasNameOf names w
has_name_of w lt = (row_of_word w, in_names (row_of_word w) lt, bits_of_name (row_of_word w) w lt (row_matches w).bits)

full_fence_is_named : row_of_word 0x0ff0000f < NAME_COUNT
unfolding row_of_word fixed_mask
full_fence_is_named = lit< tt

some_from_is_some : (o : Option Instr) → IsSome o → (i : Instr) × (o ≡ Some i)
some_from_is_some o h = search (arith, nat_tests)

-- only the fence of all memory and device accesses has a name
fence_with_name : (fence full : Bool) (w : ℕ) → nat_eq (bit_and w 0x707f) 0x0f ≡ fence → nat_eq w 0x0ff0000f ≡ full → cond fence full true ≡ true → IsFence w → w ≡ 0x0ff0000f
fence_with_name fence full w f e h is = search (arith, nat_tests, eq-eqb, eqb-true)

-- a word without a name is another fence, so every other instruction has a name
fence_without_name : (fence full : Bool) (w : ℕ) → nat_eq (bit_and w 0x707f) 0x0f ≡ fence → nat_eq w 0x0ff0000f ≡ full → cond fence full true ≡ false → IsFence w × (w ≢ 0x0ff0000f)
fence_without_name fence full w f e h = search (arith, nat_tests, eq-eqb, eqb-true, true≢false)

pub word_with_name_is_named : (w : ℕ) → HasName w → row_of_word w < NAME_COUNT
word_with_name_is_named w h =
    search (arith, nat_tests, cases_fence, fence_with_name, full_fence_is_named, some_from_is_some, some_row, word_of_row_has_name, word_with_bits_is_named)

pub is_named : (w : ℕ) → HasName w → IsNamed w (listed_canonical w)
unfolding listed_canonical
is_named w h = search (arith, nat_tests, names_operation, row_matches, word_with_name_is_named)

-- the word isn't an instruction, or it is another fence
abbrev HasNoName : ℕ → Type 0
HasNoName word = IsNone (scan table word) ⊎ (IsFence word × (word ≢ 0x0ff0000f))

no_name_by : (w : ℕ) (o : Option Instr) (named : Bool) → scan table w ≡ o → has_name w ≡ named → (HasName w → ⊥) → HasNoName w
no_name_by w o named e n h = search (arith, nat_tests, fence_without_name)

word_without_name_is_not_named : (w : ℕ) → w < 2 ^ 32 → HasNoName w → row_of_word w < NAME_COUNT → ⊥
word_without_name_is_not_named w small (inl no_row) lt =
    let n = has_name_of w lt in
    let r = name_of_row n.0 w n.1 n.2 in
    none_is_not_some (r.0.instr w) (sym (search (arith, nat_tests)) ∙ found table table_apart r.0 r.1 w r.2)
word_without_name_is_not_named w small (inr fence) lt = search (arith, nat_tests, fence_named, has_name_of)

last_row : (row : ℕ) → row < ROW_COUNT → (row < NAME_COUNT → ⊥) → row ≡ NAME_COUNT
last_row row lt h = omega (arith, h)

pub only_directive_is_left : (w : ℕ) → w < 2 ^ 32 → (HasName w → ⊥) → row_of_word w ≡ NAME_COUNT
only_directive_is_left w small h = search (arith, nat_tests, last_row, no_name_by, row_matches, word_without_name_is_not_named)

text_of_directive : (w : ℕ) → text_at NAME_COUNT w ≡ text_by directive w
unfolding text_at name_at slots_at row_at
text_of_directive w = refl

pub is_directive : (w : ℕ) → w < 2 ^ 32 → (HasName w → ⊥) → listed_canonical w ≡ text_by directive w
unfolding listed_canonical
is_directive w small h = ap (λ (row : ℕ). text_at row w) (only_directive_is_left w small h) ∙ text_of_directive w

-- The text of a word by a row that matches it assembles to that word
use Rattle.std.proofs.Common.{◌≡◌, ℕ, zero, suc, ◌+◌, ◌-◌, ◌^◌, ◌<◌, Bool, true, false, eqb, ltb, nat_eq, nat_lt, ◌&&◌, List, [], ◌∷◌, ◌++◌, length, get_or, Option, Some, None, Ok, refl, sym, ap, ap₂, ◌∙◌, arith, lit<}
use Rattle.std.specs.Int.Bits.{bit_and}
use Rattle.std.proofs.lemmas.Bool.{agree_below_at, and_parts, ltb-true, eqb-true}
use Rattle.rv_model.specs.assembler.Tokens.{Token, tokens}
use Rattle.rv_model.specs.instructions.FixedBits.{Part, sum_of, mask_of}
use Rattle.rv_model.specs.declared.assembler.forms.Slot.{Slot}
use Rattle.rv_model.specs.declared.assembler.mnemonics.TheConstants.{ROW_COUNT}
use Rattle.rv_model.specs.assembler.Table.{read_operands, operands_text, printed_operands}
use Rattle.rv_model.proofs.instruction_lemmas.Parts.{share_none, rebuilt}
use Rattle.rv_asm.specs.Spans.{spans}
use Rattle.rv_asm.proofs.Assembling.{spelled_with}
use Rattle.rv_asm.proofs.Tokens.{all_run}
use Rattle.rv_asm.proofs.FieldLaws.{operand_parts, operand_parts_of_word}
use Rattle.rv_asm.proofs.SlotLaws.{run_is_one_token}
use Rattle.rv_asm.proofs.FormLaws.{is_form, form_again}
use Rattle.rv_model.specs.lending.NameTable.{fixed_mask, row_named, row_at, name_at, slots_at, bits_at}
use Rattle.rv_model.proofs.assembler_lemmas.ListedTexts.{listed_by, listed, text_at}

abbrev is_row : ℕ → Option ℕ → Bool
is_row row None = false
is_row row (Some k) = eqb k row

abbrev pub all_ascii : List ℕ → Bool
all_ascii [] = true
all_ascii (c ∷ cs) = nat_lt c 128 && all_ascii cs

-- the name is one token, and is found at this row
unfoldable name_fits : ℕ → Bool
name_fits row = all_run (name_at row) && (ltb 0 (length (name_at row)) && (all_ascii (row_at row).0 && is_row row (row_named (name_at row))))

-- the form can be read, and its operands and the fixed bits fill a word
unfoldable form_fits : ℕ → Bool
form_fits row =
    is_form (slots_at row) && (ltb (bits_at row + spans (slots_at row)) (2 ^ 32)
    && (share_none (fixed_mask (slots_at row)) (operand_parts (slots_at row) 0)
    && nat_eq (mask_of (fixed_mask (slots_at row)) (operand_parts (slots_at row) 0)) (2 ^ 32 - 1)))

each_name_fits : (row : ℕ) → row < ROW_COUNT → name_fits row ≡ true
unfolding name_fits name_at row_at row_named
each_name_fits row lt = agree_below_at name_fits (λ _. true) ROW_COUNT row refl lt

each_form_fits : (row : ℕ) → row < ROW_COUNT → form_fits row ≡ true
unfolding form_fits slots_at bits_at row_at fixed_mask
each_form_fits row lt = agree_below_at form_fits (λ _. true) ROW_COUNT row refl lt

-- the facts about a row that `name_fits` and `form_fits` establish
pub record Row (row : ℕ) : Type 0 where
  pub run : all_run (name_at row) ≡ true
  pub some : 0 < length (name_at row)
  pub ascii : all_ascii (row_at row).0 ≡ true
  pub found : row_named (name_at row) ≡ Some row
  pub form : is_form (slots_at row) ≡ true
  pub room : bits_at row + spans (slots_at row) < 2 ^ 32
  pub apart : share_none (fixed_mask (slots_at row)) (operand_parts (slots_at row) 0) ≡ true
  pub full : mask_of (fixed_mask (slots_at row)) (operand_parts (slots_at row) 0) ≡ 2 ^ 32 - 1

finds_row : (row : ℕ) (found : Option ℕ) → is_row row found ≡ true → found ≡ Some row
finds_row row None h = absurd cc
finds_row row (Some k) h = ap (λ (x : ℕ). Some x) (eqb-true k row h)

pub row_facts : (row : ℕ) → row < ROW_COUNT → Row row
unfolding name_fits form_fits
row_facts row lt =
    let a = and_parts (all_run (name_at row)) _ (each_name_fits row lt) in
    let b = and_parts (ltb 0 (length (name_at row))) _ a.1 in
    let c = and_parts (all_ascii (row_at row).0) _ b.1 in
    let d = and_parts (is_form (slots_at row)) _ (each_form_fits row lt) in
    let e = and_parts (ltb (bits_at row + spans (slots_at row)) (2 ^ 32)) _ d.1 in
    let f = and_parts (share_none (fixed_mask (slots_at row)) (operand_parts (slots_at row) 0)) _ e.1 in
    record {
      run = a.0;
      some = ltb-true 0 (length (name_at row)) b.0;
      ascii = c.0;
      found = finds_row row (row_named (name_at row)) c.1;
      form = d.0;
      room = ltb-true (bits_at row + spans (slots_at row)) (2 ^ 32) e.0;
      apart = f.0;
      full = eqb-true (mask_of (fixed_mask (slots_at row)) (operand_parts (slots_at row) 0)) (2 ^ 32 - 1) f.1;
    }

-- the tokens of a name and operands: the name, then tokens that the form reads as the operands
name_then_operands : (end bits w : ℕ) (name : List ℕ) (ss : List Slot) → all_run name ≡ true → 0 < length name → is_form ss ≡ true
    → (ts : List Token) × (tokens 1 (name ++ operands_text ss w) ≡ record { column = 1; text = name } ∷ ts) × (read_operands end bits ss ts ≡ Ok (sum_of bits (operand_parts ss w)))
unfolding tokens read_operands
name_then_operands end bits w name [] run some f = (tokens (1 + length name) [], run_is_one_token 1 name [] run some refl, refl)
name_then_operands end bits w name (s ∷ ss) run some f =
    (tokens (1 + length name + 1) (printed_operands (s ∷ ss) w), run_is_one_token 1 name (32 ∷ printed_operands (s ∷ ss) w) run some refl, form_again (s ∷ ss) w (1 + length name + 1) end bits f)

pub text_again : (row w : ℕ) → row < ROW_COUNT → w < 2 ^ 32 → bit_and w (fixed_mask (slots_at row)) ≡ bits_at row → listed (text_at row w) ≡ Ok w
unfolding listed text_at
text_again row w lt small is =
    let r = row_facts row lt in
    let ss = slots_at row in
    let end = length (text_at row w) + 1 in
    let s = name_then_operands end (bits_at row) w (name_at row) ss r.run r.some r.form in
    ap (listed_by end) s.1
    ∙ ap (spelled_with end (record { column = 1; text = name_at row }) s.0) r.found
    ∙ s.2
    ∙ ap (λ (n : ℕ). Ok n) (ap₂ (λ (b : ℕ) (ps : List Part). sum_of b ps) (sym is) (operand_parts_of_word ss w) ∙ rebuilt w (fixed_mask ss) (operand_parts ss 0) small r.apart r.full)

pub byte_is_ascii : (name : List ℕ) → all_ascii name ≡ true → (k : ℕ) → k < 16 → get_or name k 0 < 128
byte_is_ascii [] h k lt = lit< tt
byte_is_ascii (c ∷ cs) h zero lt = ltb-true c 128 (and_parts (nat_lt c 128) (all_ascii cs) h).0
byte_is_ascii (c ∷ cs) h (suc k) lt = byte_is_ascii cs (and_parts (nat_lt c 128) (all_ascii cs) h).1 k (omega arith)

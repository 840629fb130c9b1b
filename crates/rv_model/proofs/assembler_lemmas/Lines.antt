-- The canonical text of a word has no newline.
use Rattle.std.proofs.Common.{◌≡◌, ℕ, zero, suc, Option, ◌-◌, ◌/◌, ◌%◌, ◌<◌, ◌≤◌, List, [], ◌∷◌, Bool, true, refl, sym, ap, subst, arith, inl, inr}
use Rattle.std.specs.Option.{option_map_or}
use Rattle.std.specs.Prelude.{codes, decimal, nat_lt}
use Rattle.std.proofs.Math.ListN.{get_or-eq_default}
use Rattle.std.proofs.lemmas.Bool.{agree_below_at, cases_lt, and_from}
use Rattle.std.proofs.lemmas.Bool.Decides.{nat_tests}
use Rattle.rv_model.specs.declared.assembler.forms.Slot.{Slot}
use Rattle.rv_model.specs.declared.assembler.forms.Slot.TheVariants.{Word}
use Rattle.rv_model.specs.declared.assembler.forms.Form.TheVariants as form
use Rattle.rv_model.specs.declared.assembler.mnemonics.Mnemonic.{Mnemonic}
use Rattle.rv_model.specs.declared.assembler.mnemonics.TheConstants.{MNEMONICS, ROW_COUNT}
use Rattle.rv_model.specs.assembler.Fields.{value_of}
use Rattle.rv_model.specs.assembler.Numbers.{hex_digits}
use Rattle.rv_model.specs.assembler.Slots.{half, signed_text, vtype_named, vtype_text, printed}
use Rattle.rv_model.specs.assembler.Table.{operands_text, printed_operands, canonical}
use Rattle.rv_model.proofs.text_lemmas.Newlines.{is_line, IsLine}
use Rattle.rv_model.specs.declared.vector.control_register.ControlRegister.{ControlRegister}
use Rattle.rv_model.specs.declared.vector.types.Sew.{Sew}
use Rattle.rv_model.specs.declared.vector.types.Lmul.{Lmul}
use Rattle.rv_model.specs.vector.ControlRegisters.{control_register, register_name}
use Rattle.rv_model.specs.vector.TypeNames.{lmul_name, mask_name, sew_name, tail_name}
use Rattle.rv_model.specs.vector.TypeRules.{lmul_with_number, sew_with_number}
use Rattle.rv_model.proofs.assembler_lemmas.Found.{found_passes}
use Rattle.rv_model.proofs.Choices.{of_either}
use Rattle.rv_model.proofs.text_lemmas.Pieces.{is_line-append, decimal_line}
use Rattle.rv_model.specs.lending.NameTable.{unpadded, row_at, name_at}
use Rattle.rv_model.proofs.assembler_lemmas.ListedTexts.{text_at, IsNamed}
use Rattle.rv_model.proofs.assembler_lemmas.Spellings.{canonical_directive, canonical_named, cases_named}

no_newline_in_hex_digits : (k n : ℕ) → IsLine (hex_digits k n)
unfolding hex_digits
no_newline_in_hex_digits zero n = refl
no_newline_in_hex_digits (suc k) n = is_line-append (hex_digits k (n / 16)) _ (no_newline_in_hex_digits k (n / 16)) (search (arith, nat_tests, and_from, of_either))

-- the name of each control register
register_name_is_line : ControlRegister → Bool
register_name_is_line register = is_line (register_name register)

-- the name of a control register, or its number in digits
abbrev csr_text_of : ℕ → Option ControlRegister → List ℕ
csr_text_of n register = option_map_or register_name register (decimal n)

no_newline_in_csr_text_of : (n : ℕ) (register : Option ControlRegister) → control_register n ≡ register → IsLine (csr_text_of n register)
unfolding register_name_is_line
no_newline_in_csr_text_of n register h = search (arith, nat_tests, decimal_line, found_passes, register_name_is_line)

no_newline_in_csr_text : (n : ℕ) → IsLine (csr_text_of n (control_register n))
no_newline_in_csr_text n = no_newline_in_csr_text_of n (control_register n) refl

no_newline_in_sew_name : (sew : Sew) → IsLine (sew_name sew)
no_newline_in_sew_name sew = search (arith, nat_tests)

no_newline_in_lmul_name : (lmul : Lmul) → IsLine (lmul_name lmul)
no_newline_in_lmul_name lmul = search (arith, nat_tests)

no_newline_in_tail_name : (agnostic : Bool) → IsLine (tail_name agnostic)
no_newline_in_tail_name agnostic = search (arith, nat_tests)

no_newline_in_mask_name : (agnostic : Bool) → IsLine (mask_name agnostic)
no_newline_in_mask_name agnostic = search (arith, nat_tests)

no_newline_in_signed_text : (size count v : ℕ) → IsLine (signed_text size count v)
no_newline_in_signed_text size count v = search (arith, nat_tests, decimal_line, of_either)

no_newline_in_vtype_named : (sew : Option Sew) (lmul : Option Lmul) (v : ℕ) → IsLine (vtype_named sew lmul v)
no_newline_in_vtype_named sew lmul v =
    search (arith, nat_tests, decimal_line, no_newline_in_lmul_name, no_newline_in_mask_name, no_newline_in_sew_name, no_newline_in_tail_name)

no_newline_in_vtype_text : (v : ℕ) → IsLine (vtype_text v)
no_newline_in_vtype_text v = of_either IsLine (nat_lt v 256) _ _ (no_newline_in_vtype_named (sew_with_number (v / 8 % 8)) (lmul_with_number (v % 8)) v) (decimal_line v)

-- the text of each operand
no_newline_in_operand : (slot : Slot) (v : ℕ) → IsLine (printed slot v)
no_newline_in_operand slot v =
    search (arith, nat_tests, decimal_line, half, no_newline_in_csr_text, no_newline_in_hex_digits, no_newline_in_signed_text, no_newline_in_vtype_text, of_either)

no_newline_in_printed_operands : (slots : List Slot) (word : ℕ) → IsLine (printed_operands slots word)
unfolding printed_operands
no_newline_in_printed_operands [] word = refl
no_newline_in_printed_operands (s ∷ ss) word =
    is_line-append (printed s (value_of s word)) (printed_operands ss word) (no_newline_in_operand s (value_of s word)) (no_newline_in_printed_operands ss word)

no_newline_in_operands_text : (slots : List Slot) (word : ℕ) → IsLine (operands_text slots word)
no_newline_in_operands_text slots word = search (arith, nat_tests, no_newline_in_printed_operands)

unfoldable name_is_line : ℕ → Bool
name_is_line row = is_line (name_at row)

each_name_is_line : (row : ℕ) → row < ROW_COUNT → name_is_line row ≡ true
unfolding name_is_line name_at row_at
each_name_is_line row lt = agree_below_at name_is_line (λ _. true) ROW_COUNT row refl lt

-- rows past the end of the table have no name
no_newline_past_table : (row : ℕ) → ROW_COUNT ≤ row → IsLine (name_at row)
unfolding name_at row_at
no_newline_past_table row le =
    ap (λ (r : Mnemonic). is_line (unpadded r.0)) (get_or-eq_default MNEMONICS (record { 0 = []; 1 = form.Plain; 2 = 0 }) le)

no_newline_in_name : (row : ℕ) → IsLine (name_at row)
unfolding name_is_line
no_newline_in_name row = search (arith, nat_tests, cases_lt, each_name_is_line, no_newline_past_table)

no_newline_in_named : (w : ℕ) (text : List ℕ) → IsNamed w text → IsLine text
unfolding text_at
no_newline_in_named w text named = search (arith, nat_tests, is_line-append, no_newline_in_name, no_newline_in_operands_text)

-- the canonical text of a word is one line
pub canonical_line : (word : ℕ) → IsLine (canonical word)
unfolding canonical
canonical_line word = elim (cases_named word) [
  | inl named ↦ no_newline_in_named word (canonical word) (canonical_named word named)
  | inr none ↦ subst IsLine (sym (canonical_directive word none)) (is_line-append (codes ".word") (operands_text (Word ∷ []) word) refl (no_newline_in_operands_text (Word ∷ []) word))
]

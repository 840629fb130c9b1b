-- The slots of a row of the code's table are those of each instruction whose word has the bits of the row.
use Rattle.std.proofs.Common.{◌≡◌, ℕ, ◌<◌, List, map, take, get_or, Option, Some, None, refl, sym, ap, subst, ◌∙◌, arith}
use Rattle.std.specs.Option.{IsSomeAnd, option_map}
use Rattle.std.specs.Int.Bits.{bit_and}
use Rattle.std.proofs.lemmas.List.{get_or-map, get_or-take}
use Rattle.std.proofs.lemmas.Bool.Decides.{nat_tests}
use Rattle.rv_model.specs.declared.instructions.operations.VectorOp.{VectorOp}
use Rattle.rv_model.specs.declared.instructions.operations.Form.{Form}
use Rattle.rv_model.specs.declared.instructions.instruction.Instr.{Instr}
use Rattle.rv_model.specs.declared.assembler.forms.Slot.{Slot}
use Rattle.rv_model.specs.declared.assembler.mnemonics.Mnemonic.{Mnemonic}
use Rattle.rv_model.specs.declared.assembler.mnemonics.TheConstants.{MNEMONICS, NAME_COUNT}
use Rattle.rv_model.specs.instructions.FixedBits.{field, flag}
use Rattle.rv_model.specs.lending.Families.{filled}
use Rattle.rv_model.specs.lending.NameTable.{HasBitsOf, bits_at, row_at, slots_at, slots_of}
use Rattle.rv_model.specs.instructions.Operations.{form_of, source_of}
use Rattle.rv_model.specs.instructions.Table.{Row, table, scan}
use Rattle.rv_model.specs.assembler.InstructionTexts.{arith_slots, second, slots}
use Rattle.rv_model.proofs.instruction_lemmas.Scans.{In}
use Rattle.rv_model.proofs.instruction_lemmas.RoundTrips.{template_of}
use Rattle.rv_model.proofs.instruction_lemmas.Words.{form_source_of}
use Rattle.rv_model.proofs.assembler_lemmas.Naming.{none}
use Rattle.rv_model.proofs.assembler_lemmas.NamedOperations.{of_name, same_flag, name_bits, operation_bits}

-- ---- words of one row that agree in the bits of the name have the same slots

arith_same : (op : VectorOp) (f : Form) (w v : ℕ) → bit_and w (operation_bits op) ≡ bit_and v (operation_bits op) → arith_slots op f (flag w) ≡ arith_slots op f (flag v)
arith_same op f w v same_bits_named = search (arith, nat_tests, same_flag)

same_form : (f : Form) (w v : ℕ) → form_of (source_of f (field 15 5 w)) ≡ form_of (source_of f (field 15 5 v))
same_form f w v = form_source_of f (field 15 5 w) ∙ sym (form_source_of f (field 15 5 v))

same_slots : (t : Instr) (w v : ℕ) → bit_and w (name_bits (filled t v)) ≡ bit_and v (name_bits (filled t v)) → slots (filled t w) ≡ slots (filled t v)
same_slots t w v same_bits_named = search (arith, arith_same, same_form, second)

same_in_row : (r : Row) → In r table → (w v : ℕ) → bit_and w (name_bits (r.instr v)) ≡ bit_and v (name_bits (r.instr v)) → slots (r.instr w) ≡ slots (r.instr v)
same_in_row r here w v =
    let P : Row → Type 0 = λ s. bit_and w (name_bits (s.instr v)) ≡ bit_and v (name_bits (s.instr v)) → slots (s.instr w) ≡ slots (s.instr v) in
    subst P (template_of r here).1 (same_slots (template_of r here).0 w v)

-- ---- each row of the code's table has these slots

abbrev slots_in_table : Mnemonic → Option (List Slot)
slots_in_table m = option_map slots (scan table m.2)

abbrev own_slots : Mnemonic → Option (List Slot)
own_slots m = Some (slots_of m.1)

slots_agree : map slots_in_table (take NAME_COUNT MNEMONICS) ≡ map own_slots (take NAME_COUNT MNEMONICS)
unfolding table scan
slots_agree = refl

its_slots : (row : ℕ) → row < NAME_COUNT → slots_in_table (row_at row) ≡ own_slots (row_at row)
unfolding row_at
its_slots row lt =
    subst (λ m. slots_in_table m ≡ own_slots m) (get_or-take NAME_COUNT MNEMONICS row none lt)
    (sym (get_or-map slots_in_table (take NAME_COUNT MNEMONICS) row none None lt)
    ∙ ap (λ (all : List (Option (List Slot))). get_or all row None) slots_agree
    ∙ get_or-map own_slots (take NAME_COUNT MNEMONICS) row none None lt)

-- the slots of a row are those of the instruction of each word with the row's bits
pub has_slots : (row word : ℕ) → row < NAME_COUNT → HasBitsOf row word → IsSomeAnd (scan table word) (λ i. slots i ≡ slots_at row)
unfolding slots_at bits_at
has_slots row word lt is =
    let named = of_name row word lt is in
    let i = named.r.instr (row_at row).2 in
    let own = its_slots row lt in
    subst (λ o. IsSomeAnd o (λ i. slots i ≡ slots_of (row_at row).1)) (sym named.is) (same_in_row named.r named.of_table word (row_at row).2 named.agrees ∙ cc)

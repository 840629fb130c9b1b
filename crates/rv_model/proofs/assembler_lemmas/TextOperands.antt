-- The slots of an instruction hold its operands.
use Rattle.std.proofs.Common.{◌≡◌, ℕ, Bool, false, List, [], ◌∷◌, ◌++◌, ap, arith}
use Rattle.std.specs.Prelude.{flat_map}
use Rattle.std.proofs.lemmas.Bool.Decides.{nat_tests}
use Rattle.rv_model.specs.declared.instructions.operations.VectorOp.{VectorOp}
use Rattle.rv_model.specs.declared.instructions.operations.Form.{Form}
use Rattle.rv_model.specs.declared.instructions.instruction.Instr.{Instr}
use Rattle.rv_model.specs.declared.assembler.forms.Slot.{Slot}
use Rattle.rv_model.specs.instructions.FixedBits.{field, flag}
use Rattle.rv_model.specs.lending.Families.{filled}
use Rattle.rv_model.specs.instructions.Operations.{form_of, source_of}
use Rattle.rv_model.specs.instructions.Table.{Row, table}
use Rattle.rv_model.proofs.instruction_lemmas.Scans.{In, some_row}
use Rattle.rv_model.proofs.instruction_lemmas.RoundTrips.{template_of}
use Rattle.rv_model.specs.assembler.InstructionTexts.{slots}
use Rattle.rv_model.specs.assembler.InstructionTexts as layout
use Rattle.rv_model.specs.assembler.Operands.{TextOperand, V, Mask, SlotsHoldOperands, arith_operands, carry_operands, multiply_add_operands, operand_in, second, text_operands, usual_operands}

abbrev operands_in : ℕ → List Slot → List TextOperand
operands_in word slots = flat_map (operand_in word) slots

-- the second source of a word of this form, in its slot
second_held : (is_unsigned : Bool) (f : Form) (w : ℕ)
    → operand_in w (layout.second is_unsigned (form_of (source_of f (field 15 5 w)))) ≡ second is_unsigned (source_of f (field 15 5 w)) ∷ []
second_held is_unsigned f w = search (arith, nat_tests)

usual_held : (is_unsigned : Bool) (f : Form) (w : ℕ)
    → operands_in w (layout.usual_slots is_unsigned (form_of (source_of f (field 15 5 w)))) ≡ usual_operands is_unsigned (source_of f (field 15 5 w)) (field 7 5 w) (field 20 5 w) (flag w)
usual_held is_unsigned f w = ap (λ (os : List TextOperand). V (field 7 5 w) ∷ V (field 20 5 w) ∷ (os ++ (Mask (flag w) ∷ []))) (second_held is_unsigned f w)

multiply_add_held : (f : Form) (w : ℕ)
    → operands_in w (layout.multiply_add_slots (form_of (source_of f (field 15 5 w)))) ≡ multiply_add_operands (source_of f (field 15 5 w)) (field 7 5 w) (field 20 5 w) (flag w)
multiply_add_held f w = ap (λ (os : List TextOperand). V (field 7 5 w) ∷ (os ++ (V (field 20 5 w) ∷ Mask (flag w) ∷ []))) (second_held false f w)

-- the operands of vmadc and vmsbc, with v0 and without
carry_held : (vm : Bool) (f : Form) (w : ℕ)
    → operands_in w (layout.carry_out_slots vm (form_of (source_of f (field 15 5 w)))) ≡ carry_operands (source_of f (field 15 5 w)) (field 7 5 w) (field 20 5 w)
carry_held vm f w = search (arith, nat_tests, second_held)

arith_held : (op : VectorOp) (f : Form) (w : ℕ)
    → operands_in w (layout.arith_slots op (form_of (source_of f (field 15 5 w))) (flag w)) ≡ arith_operands op (source_of f (field 15 5 w)) (field 7 5 w) (field 20 5 w) (flag w)
arith_held op f w = search (arith, nat_tests, carry_held, multiply_add_held, usual_held)

held : (t : Instr) (w : ℕ) → operands_in w (slots (filled t w)) ≡ text_operands (filled t w)
held t w = search (arith, arith_held, carry_held, second_held)

held_in_row : (r : Row) → In r table → (w : ℕ) → operands_in w (slots (r.instr w)) ≡ text_operands (r.instr w)
held_in_row r here w = search (arith, nat_tests, held, template_of)

pub slots_hold_operands : SlotsHoldOperands
slots_hold_operands w = search (arith, nat_tests, held_in_row, some_row)

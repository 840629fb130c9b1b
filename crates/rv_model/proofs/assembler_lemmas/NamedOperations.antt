-- Every word with the bits of a name encodes the operation with that name.
use Rattle.std.proofs.Common.{◌≡◌, ℕ, ◌*◌, ◌^◌, ◌<◌, Bool, true, false, nat_eq, ◌&&◌, List, [], ◌++◌, take, get_or, Option, Some, None, refl, sym, ap, subst, ◌∙◌, arith}
use Rattle.std.specs.List.{list_all}
use Rattle.std.specs.Option.{IsSomeAnd}
use Rattle.std.specs.Str.{bytes_eq}
use Rattle.std.specs.Int.Bits.{bit_and, and_comm, and_self}
use Rattle.std.proofs.lemmas.Nat.{and_assoc}
use Rattle.std.proofs.lemmas.Nat.Bits.{and_high}
use Rattle.std.proofs.lemmas.Bool.{and_parts, eqb-true}
use Rattle.std.proofs.lemmas.List.{get_or-take}
use Rattle.std.proofs.lemmas.Slice.Eq.{bytes_eq-Decides}
use Rattle.std.proofs.lemmas.Bool.Decides.{nat_tests}
use Rattle.rv_model.specs.declared.instructions.operations.VectorOp.{VectorOp}
use Rattle.rv_model.specs.declared.instructions.operations.VectorOp.TheVariants as vector_op
use Rattle.rv_model.specs.declared.instructions.operations.Form.{Form}
use Rattle.rv_model.specs.declared.instructions.instruction.Instr.{Instr}
use Rattle.rv_model.specs.declared.instructions.instruction.Instr.TheVariants as instr
use Rattle.rv_model.specs.declared.instructions.vector.VectorInstr.TheVariants.{Arith}
use Rattle.rv_model.specs.declared.instructions.access.AccessInstr.TheVariants.{UnitStride, Strided, Indexed}
use Rattle.rv_model.specs.declared.assembler.forms.Form.TheVariants as text_form
use Rattle.rv_model.specs.declared.assembler.mnemonics.Mnemonic.{Mnemonic}
use Rattle.rv_model.specs.declared.assembler.mnemonics.TheConstants.{MNEMONICS, NAME_COUNT}
use Rattle.rv_model.specs.instructions.FixedBits.{field, flag}
use Rattle.rv_model.specs.lending.Families.{filled}
use Rattle.rv_model.specs.instructions.Operations.{vector_entry}
use Rattle.rv_model.specs.instructions.Table.{Row, table, scan}
use Rattle.rv_model.specs.assembler.InstructionTexts.{mnemonic, vector_suffix}
use Rattle.rv_model.proofs.instruction_lemmas.RoundTrips.{template_of}
use Rattle.rv_model.proofs.instruction_lemmas.Scans.{In, found, table_apart}
use Rattle.rv_model.proofs.instruction_lemmas.Words.{form_source_of}
use Rattle.rv_model.proofs.assembler_lemmas.Naming.{all_at, bits_of_name, covers_all, in_names, names, pattern_of_row, row_of_name}
use Rattle.rv_model.specs.lending.NameTable.{fixed_mask, HasBitsOf, bits_at, name_at, row_at, slots_at, slots_of, unpadded}
use Rattle.rv_model.proofs.assembler_lemmas.ListedTexts.{NamesOperation}

-- ---- the bits that determine a name in addition to the operation

-- bit 25 of vmadc and vmsbc, which selects a carry or borrow input
abbrev pub operation_bits : VectorOp → ℕ
operation_bits (vector_op.CarryOut op) = 2 ^ 25
operation_bits op = 0

-- that bit, and the number of fields of a segment
abbrev pub name_bits : Instr → ℕ
name_bits (instr.Vector (Arith arith vd vs2 vm)) = operation_bits arith.0
name_bits (instr.Access (UnitStride op width nf vd rs1 vm)) = 7 * 2 ^ 29
name_bits (instr.Access (Strided direction width nf vd rs1 rs2 vm)) = 7 * 2 ^ 29
name_bits (instr.Access (Indexed direction order width nf vd rs1 vs2 vm)) = 7 * 2 ^ 29
name_bits i = 0

pub same_flag : (w v : ℕ) → bit_and w (2 ^ 25) ≡ bit_and v (2 ^ 25) → flag w ≡ flag v
same_flag w v h =
    ap (λ (n : ℕ). nat_eq n 1) (omega (arith, h, and_high w 1 25, and_high v 1 25))

same_fields : (w v : ℕ) → bit_and w (7 * 2 ^ 29) ≡ bit_and v (7 * 2 ^ 29) → field 29 3 w ≡ field 29 3 v
same_fields w v h = omega (arith, h, and_high w 3 29, and_high v 3 29)

abbrev vector_name : VectorOp → Form → Bool → List ℕ
vector_name op f vm = (vector_entry op).0 ++ vector_suffix op f vm

vector_same : (op : VectorOp) (f : Form) (w v : ℕ) → bit_and w (operation_bits op) ≡ bit_and v (operation_bits op) → vector_name op f (flag w) ≡ vector_name op f (flag v)
vector_same op f w v h = search (arith, nat_tests, same_flag)

-- words that agree in those bits have the same name
same_name : (t : Instr) (w v : ℕ) → bit_and w (name_bits (filled t v)) ≡ bit_and v (name_bits (filled t v)) → mnemonic (filled t w) ≡ mnemonic (filled t v)
same_name t w v h = search (arith, form_source_of, same_fields, vector_same)

-- ---- each row of the table of names

-- the name is that of an instruction's operation, and fixes the bits that determine it
abbrev named_by : Mnemonic → Option Instr → Bool
named_by m None = false
named_by m (Some i) = bytes_eq (mnemonic i) (unpadded m.0) && nat_eq (bit_and (name_bits i) (fixed_mask (slots_of m.1))) (name_bits i)

abbrev names_its_own : Mnemonic → Bool
names_its_own m = named_by m (scan table m.2)

each_names_its_own : list_all names_its_own (take NAME_COUNT MNEMONICS) ≡ true
unfolding table scan fixed_mask
each_names_its_own = refl

abbrev none : Mnemonic
none = record { 0 = []; 1 = text_form.Plain; 2 = 0 }

own_name : (row : ℕ) → row < NAME_COUNT → names_its_own (row_at row) ≡ true
unfolding row_at
own_name row lt =
    subst (λ m. names_its_own m ≡ true) (get_or-take NAME_COUNT MNEMONICS row none lt) (all_at names_its_own (take NAME_COUNT MNEMONICS) row none each_names_its_own lt)

-- words that match a row of the instruction table and agree in the bits that determine the name have the same name
same_in_row : (r : Row) → In r table → (w v : ℕ) → bit_and w (name_bits (r.instr v)) ≡ bit_and v (name_bits (r.instr v)) → mnemonic (r.instr w) ≡ mnemonic (r.instr v)
same_in_row r here w v =
    let P : Row → Type 0 = λ s. bit_and w (name_bits (s.instr v)) ≡ bit_and v (name_bits (s.instr v)) → mnemonic (s.instr w) ≡ mnemonic (s.instr v) in
    subst P (template_of r here).1 (same_name (template_of r here).0 w v)

-- bits outside a mask may differ
within_mask : (w v mask some : ℕ) → bit_and some mask ≡ some → bit_and w mask ≡ v → bit_and w some ≡ bit_and v some
within_mask w v mask some inside is =
    ap (bit_and w) (sym inside ∙ and_comm some mask) ∙ sym (and_assoc some w mask) ∙ ap (λ (x : ℕ). bit_and x some) is

-- the set bits of a name are among the bits that it fixes
own_bits : (w mask bits : ℕ) → bit_and w mask ≡ bits → bit_and bits mask ≡ bits
own_bits w mask bits is = sym (within_mask w bits mask mask (and_self mask) is) ∙ is

-- a word with the bits of a name matches the same row of the instruction table as these bits; both agree in the bits that determine the
-- name
pub record OfName (row word : ℕ) : Type 0 where
  pub r : Row
  pub of_table : In r table
  pub is : scan table word ≡ Some (r.instr word)
  pub at_zeros : scan table (bits_at row) ≡ Some (r.instr (bits_at row))
  pub named : mnemonic (r.instr (bits_at row)) ≡ name_at row
  pub agrees : bit_and word (name_bits (r.instr (bits_at row))) ≡ bit_and (bits_at row) (name_bits (r.instr (bits_at row)))

pub of_name : (row word : ℕ) → row < NAME_COUNT → HasBitsOf row word → OfName row word
unfolding name_at slots_at bits_at
of_name row word lt is =
    let m = row_at row in
    let mask = fixed_mask (slots_of m.1) in
    let r = row_of_name row (in_names row lt) in
    let name = get_or names row (0, 0) in
    let own : bit_and m.2 mask ≡ m.2 = own_bits word mask m.2 is in
    let at_zeros : scan table m.2 ≡ Some (r.0.instr m.2) = found table table_apart r.0 r.1 m.2 (covers_all (pattern_of_row r.0) name m.2 r.2 (bits_of_name row m.2 lt own)) in
    let i = r.0.instr m.2 in
    let P : Option Instr → Type 0 = λ o. named_by m o ≡ true in
    let tests = and_parts (bytes_eq (mnemonic i) (unpadded m.0)) (nat_eq (bit_and (name_bits i) mask) (name_bits i)) (subst P at_zeros (own_name row lt)) in
    record {
      r = r.0;
      of_table = r.1;
      is = (found table table_apart r.0 r.1 word (covers_all (pattern_of_row r.0) name word r.2 (bits_of_name row word lt is)));
      at_zeros = at_zeros;
      named = (bytes_eq-Decides (mnemonic i) (unpadded m.0)).0 tests.0;
      agrees = within_mask word m.2 mask (name_bits i) (eqb-true (bit_and (name_bits i) mask) (name_bits i) tests.1) is;
    }

pub names_operation : (row word : ℕ) → row < NAME_COUNT → HasBitsOf row word → NamesOperation row word
names_operation row word lt is =
    let named = of_name row word lt is in
    subst (λ o. IsSomeAnd o (λ i. mnemonic i ≡ name_at row)) (sym named.is) (same_in_row named.r named.of_table word (bits_at row) named.agrees ∙ named.named)

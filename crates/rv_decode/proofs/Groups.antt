-- Decoding of a word by groups of rows of the instruction table. A word of OP-V is an operation of the funct6 table, or its row is one of
-- the others. mop distinguishes accesses of unit stride, of registers, and strided or indexed ones. A word of SYSTEM is first compared with
-- calls and breakpoints.
use Rattle.std.proofs.Common.{◌≡◌, ◌≢◌, refl, ap, ◌∙◌, sym, ℕ, List, [], ◌∷◌, ◌++◌, Option, Some, None, ◌⊎◌}
use Rattle.std.specs.Prelude.{IfNone, IfSome}
use Rattle.std.specs.Int.Bits.{bit_and}
use Rattle.std.specs.Option.{option_map, option_or}
use Rattle.rv_model.specs.declared.instructions.operations.Major.TheVariants.{Opi, Opm}
use Rattle.rv_model.specs.declared.instructions.operations.Form.TheVariants as form
use Rattle.rv_model.specs.declared.instructions.instruction.Instr.{Instr}
use Rattle.rv_model.specs.declared.instructions.instruction.Instr.TheVariants as instr
use Rattle.rv_model.specs.declared.instructions.operations.SystemOp.{SystemOp}
use Rattle.rv_model.specs.declared.instructions.scalar.ScalarInstr.TheVariants.{System}
use Rattle.rv_model.specs.declared.instructions.vector.VectorInstr.TheVariants.{Arith}
use Rattle.rv_model.specs.instructions.Table.{Row, table, scan}
use Rattle.rv_model.specs.lending.Families.{Family, rows, Systems, Csrs, CsrImmediates, Ariths, Carries, Moves, WholeMoves, MaskLogics, Compresses, MasksToScalar, Extends, MaskUnaries, ElementIndices, MovesToScalar, MovesToVector, SetVlis, SetIvlis, SetVls, Units, Strideds, Indexeds, WholeLoads, WholeStores, MaskMemories}
use Rattle.rv_model.proofs.instruction_lemmas.Scans.{scan_append, scan_narrow, same_narrow, narrowed, no_scan, DiffersFrom}
use Rattle.rv_model.specs.declared.instructions.arith_operation.ArithOperation.{ArithOperation}
use Rattle.rv_decode.specs.Groups.{rows_where, is_other_operation_instr, is_unit_stride, is_other_access, is_csr}
use Rattle.rv_decode.proofs.Scan.{at_access, at_70, at_0057, at_2057, at_3057, at_4057, at_6057, at_7057, places}

-- an instruction that a decoder finds in the first rows is the result of the scan of all rows
first_found : {A : Type 0} (make : A → Instr) (found : Option A) (all : Option Instr) (xs ys : List Row) (word : ℕ)
    → all ≡ scan (xs ++ ys) word → option_map make found ≡ scan xs word → IfSome found (λ x. all ≡ Some (make x))
first_found make None all xs ys word whole part = tt
first_found make (Some x) all xs ys word whole part =
    whole ∙ scan_append xs ys word ∙ ap (λ o. option_or o (scan ys word)) (sym part)

-- if a decoder finds no instruction in the first rows, the scan of the other rows gives the result
first_missed : {A : Type 0} (make : A → Instr) (found : Option A) (all rest : Option Instr) (xs ys : List Row) (word : ℕ)
    → all ≡ scan (xs ++ ys) word → rest ≡ scan ys word → option_map make found ≡ scan xs word → IfNone found (all ≡ rest)
first_missed make None all rest xs ys word whole e part =
    whole ∙ scan_append xs ys word ∙ ap (λ o. option_or o (scan ys word)) (sym part) ∙ sym e
first_missed make (Some x) all rest xs ys word whole e part = tt

-- if the other rows don't match, the scan of the first rows gives the result
or_none : (o : Option Instr) → option_or o None ≡ o
or_none None = refl
or_none (Some i) = refl

element_zero : (xs ys : List Row) (word : ℕ) → scan ys word ≡ None → scan (xs ++ ys) word ≡ scan xs word
element_zero xs ys word nothing =
    scan_append xs ys word ∙ ap (option_or (scan xs word)) nothing ∙ or_none (scan xs word)

-- two lists of rows give the same scan if the same rows remain for the word's bits under two masks
narrow_both : (m v n w word : ℕ) → bit_and word m ≡ v → bit_and word n ≡ w → (t s : List Row)
    → narrowed n w (narrowed m v t) ≡ narrowed n w (narrowed m v s) → scan t word ≡ scan s word
narrow_both m v n w word is at t s e =
    scan_narrow m v word is t ∙ same_narrow n w word at (narrowed m v t) (narrowed m v s) e ∙ sym (scan_narrow m v word is s)

-- the instruction of an operation of the funct6 table
abbrev instr_of : ArithOperation → Instr
instr_of o = instr.Vector (Arith o.arith o.vd o.vs2 o.unmasked)

-- ---- the rows outside of the funct6 table, by funct3 and opcode

pub other_operation_0057 : (word : ℕ) → bit_and word 0x707f ≡ 0x0057
    → scan (rows_where is_other_operation_instr) word ≡ scan (rows (Carries form.V) ++ rows (Moves form.V)) word
unfolding rows_where table rows
other_operation_0057 word is = same_narrow 0x707f 0x0057 word is (rows_where is_other_operation_instr) _ refl

pub other_operation_4057 : (word : ℕ) → bit_and word 0x707f ≡ 0x4057
    → scan (rows_where is_other_operation_instr) word ≡ scan (rows (Carries form.X) ++ rows (Moves form.X)) word
unfolding rows_where table rows
other_operation_4057 word is = same_narrow 0x707f 0x4057 word is (rows_where is_other_operation_instr) _ refl

pub other_operation_3057 : (word : ℕ) → bit_and word 0x707f ≡ 0x3057
    → scan (rows_where is_other_operation_instr) word ≡ scan (rows (Carries form.I) ++ rows (Moves form.I) ++ rows WholeMoves) word
unfolding rows_where table rows
other_operation_3057 word is = same_narrow 0x707f 0x3057 word is (rows_where is_other_operation_instr) _ refl

pub other_operation_2057 : (word : ℕ) → bit_and word 0x707f ≡ 0x2057
    → scan (rows_where is_other_operation_instr) word ≡ scan (rows MaskLogics ++ rows Compresses ++ rows MasksToScalar ++ rows Extends ++ rows MaskUnaries ++ rows ElementIndices ++ rows MovesToScalar) word
unfolding rows_where table rows
other_operation_2057 word is = same_narrow 0x707f 0x2057 word is (rows_where is_other_operation_instr) _ refl

pub other_operation_6057 : (word : ℕ) → bit_and word 0x707f ≡ 0x6057
    → scan (rows_where is_other_operation_instr) word ≡ scan (rows MovesToVector) word
unfolding rows_where table rows
other_operation_6057 word is = same_narrow 0x707f 0x6057 word is (rows_where is_other_operation_instr) _ refl

pub other_operation_7057 : (word : ℕ) → bit_and word 0x707f ≡ 0x7057
    → scan (rows_where is_other_operation_instr) word ≡ scan (rows SetVlis ++ rows SetIvlis ++ rows SetVls) word
unfolding rows_where table rows
other_operation_7057 word is = same_narrow 0x707f 0x7057 word is (rows_where is_other_operation_instr) _ refl

pub no_other_operation : (word : ℕ) → DiffersFrom places (bit_and word 0x707f) → scan (rows_where is_other_operation_instr) word ≡ None
unfolding rows_where table
no_other_operation word h = no_scan 0x707f places word (rows_where is_other_operation_instr) refl h

-- ---- operations of the funct6 table

abbrev pub FindsTableOperation : Family → ℕ → Option ArithOperation → Type 0
FindsTableOperation family word found = option_map (λ o. instr.Vector (Arith o.arith o.vd o.vs2 o.unmasked)) found ≡ scan (rows family) word

abbrev pub IsTableOperation : ℕ → Option ArithOperation → Type 0
IsTableOperation word found = IfSome found (λ o. scan table word ≡ Some (instr.Vector (Arith o.arith o.vd o.vs2 o.unmasked)))

abbrev pub IsOtherOperation : ℕ → Option ArithOperation → Type 0
IsOtherOperation word found = IfNone found (scan table word ≡ scan (rows_where is_other_operation_instr) word)

pub some_0057 : (word : ℕ) (found : Option ArithOperation) → bit_and word 0x707f ≡ 0x0057 → FindsTableOperation (Ariths Opi form.V) word found → IsTableOperation word found
unfolding rows
some_0057 word found is e = first_found instr_of found (scan table word) (rows (Ariths Opi form.V)) (rows (Carries form.V) ++ rows (Moves form.V)) word (at_0057 word is) e

pub none_0057 : (word : ℕ) (found : Option ArithOperation) → bit_and word 0x707f ≡ 0x0057 → FindsTableOperation (Ariths Opi form.V) word found → IsOtherOperation word found
unfolding rows
none_0057 word found is e = first_missed instr_of found (scan table word) (scan (rows_where is_other_operation_instr) word) (rows (Ariths Opi form.V)) (rows (Carries form.V) ++ rows (Moves form.V)) word (at_0057 word is) (other_operation_0057 word is) e

pub some_4057 : (word : ℕ) (found : Option ArithOperation) → bit_and word 0x707f ≡ 0x4057 → FindsTableOperation (Ariths Opi form.X) word found → IsTableOperation word found
unfolding rows
some_4057 word found is e = first_found instr_of found (scan table word) (rows (Ariths Opi form.X)) (rows (Carries form.X) ++ rows (Moves form.X)) word (at_4057 word is) e

pub none_4057 : (word : ℕ) (found : Option ArithOperation) → bit_and word 0x707f ≡ 0x4057 → FindsTableOperation (Ariths Opi form.X) word found → IsOtherOperation word found
unfolding rows
none_4057 word found is e = first_missed instr_of found (scan table word) (scan (rows_where is_other_operation_instr) word) (rows (Ariths Opi form.X)) (rows (Carries form.X) ++ rows (Moves form.X)) word (at_4057 word is) (other_operation_4057 word is) e

pub some_3057 : (word : ℕ) (found : Option ArithOperation) → bit_and word 0x707f ≡ 0x3057 → FindsTableOperation (Ariths Opi form.I) word found → IsTableOperation word found
unfolding rows
some_3057 word found is e = first_found instr_of found (scan table word) (rows (Ariths Opi form.I)) (rows (Carries form.I) ++ rows (Moves form.I) ++ rows WholeMoves) word (at_3057 word is) e

pub none_3057 : (word : ℕ) (found : Option ArithOperation) → bit_and word 0x707f ≡ 0x3057 → FindsTableOperation (Ariths Opi form.I) word found → IsOtherOperation word found
unfolding rows
none_3057 word found is e = first_missed instr_of found (scan table word) (scan (rows_where is_other_operation_instr) word) (rows (Ariths Opi form.I)) (rows (Carries form.I) ++ rows (Moves form.I) ++ rows WholeMoves) word (at_3057 word is) (other_operation_3057 word is) e

pub some_2057 : (word : ℕ) (found : Option ArithOperation) → bit_and word 0x707f ≡ 0x2057 → FindsTableOperation (Ariths Opm form.V) word found → IsTableOperation word found
unfolding rows
some_2057 word found is e = first_found instr_of found (scan table word) (rows (Ariths Opm form.V)) (rows MaskLogics ++ rows Compresses ++ rows MasksToScalar ++ rows Extends ++ rows MaskUnaries ++ rows ElementIndices ++ rows MovesToScalar) word (at_2057 word is) e

pub none_2057 : (word : ℕ) (found : Option ArithOperation) → bit_and word 0x707f ≡ 0x2057 → FindsTableOperation (Ariths Opm form.V) word found → IsOtherOperation word found
unfolding rows
none_2057 word found is e = first_missed instr_of found (scan table word) (scan (rows_where is_other_operation_instr) word) (rows (Ariths Opm form.V)) (rows MaskLogics ++ rows Compresses ++ rows MasksToScalar ++ rows Extends ++ rows MaskUnaries ++ rows ElementIndices ++ rows MovesToScalar) word (at_2057 word is) (other_operation_2057 word is) e

pub some_6057 : (word : ℕ) (found : Option ArithOperation) → bit_and word 0x707f ≡ 0x6057 → FindsTableOperation (Ariths Opm form.X) word found → IsTableOperation word found
unfolding rows
some_6057 word found is e = first_found instr_of found (scan table word) (rows (Ariths Opm form.X)) (rows MovesToVector) word (at_6057 word is) e

pub none_6057 : (word : ℕ) (found : Option ArithOperation) → bit_and word 0x707f ≡ 0x6057 → FindsTableOperation (Ariths Opm form.X) word found → IsOtherOperation word found
unfolding rows
none_6057 word found is e = first_missed instr_of found (scan table word) (scan (rows_where is_other_operation_instr) word) (rows (Ariths Opm form.X)) (rows MovesToVector) word (at_6057 word is) (other_operation_6057 word is) e

pub none_7057 : (word : ℕ) → bit_and word 0x707f ≡ 0x7057 → scan table word ≡ scan (rows_where is_other_operation_instr) word
none_7057 word is = at_7057 word is ∙ sym (other_operation_7057 word is)

-- ---- funct6 of operations outside of the funct6 table

pub funct6_10 : (word : ℕ) → bit_and word 0x7c ≡ 0x54 → bit_and word 0xfc000000 ≡ 0x40000000 → scan table word ≡ scan (rows_where is_other_operation_instr) word
unfolding rows_where table rows
funct6_10 word opcode is = narrow_both 0x7c 0x54 0xfc000000 0x40000000 word opcode is table (rows_where is_other_operation_instr) refl

pub funct6_12 : (word : ℕ) → bit_and word 0x7c ≡ 0x54 → bit_and word 0xfc000000 ≡ 0x48000000 → scan table word ≡ scan (rows_where is_other_operation_instr) word
unfolding rows_where table rows
funct6_12 word opcode is = narrow_both 0x7c 0x54 0xfc000000 0x48000000 word opcode is table (rows_where is_other_operation_instr) refl

pub funct6_14 : (word : ℕ) → bit_and word 0x7c ≡ 0x54 → bit_and word 0xfc000000 ≡ 0x50000000 → scan table word ≡ scan (rows_where is_other_operation_instr) word
unfolding rows_where table rows
funct6_14 word opcode is = narrow_both 0x7c 0x54 0xfc000000 0x50000000 word opcode is table (rows_where is_other_operation_instr) refl

pub funct6_17 : (word : ℕ) → bit_and word 0x7c ≡ 0x54 → bit_and word 0xfc000000 ≡ 0x5c000000 → scan table word ≡ scan (rows_where is_other_operation_instr) word
unfolding rows_where table rows
funct6_17 word opcode is = narrow_both 0x7c 0x54 0xfc000000 0x5c000000 word opcode is table (rows_where is_other_operation_instr) refl

-- ---- OPMVV

-- the rows of OPMVV outside of the funct6 table
abbrev mask_rows : List Row
mask_rows =
    rows MaskLogics ++ rows Compresses ++ rows MasksToScalar ++ rows Extends ++ rows MaskUnaries ++ rows ElementIndices ++ rows MovesToScalar

pub mask_10 : (word : ℕ) → bit_and word 0xfc000000 ≡ 0x40000000 → scan (rows MasksToScalar ++ rows MovesToScalar) word ≡ scan mask_rows word
unfolding rows
mask_10 word is = same_narrow 0xfc000000 0x40000000 word is _ mask_rows refl

pub mask_12 : (word : ℕ) → bit_and word 0xfc000000 ≡ 0x48000000 → scan (rows Extends) word ≡ scan mask_rows word
unfolding rows
mask_12 word is = same_narrow 0xfc000000 0x48000000 word is _ mask_rows refl

pub mask_14 : (word : ℕ) → bit_and word 0xfc000000 ≡ 0x50000000 → scan (rows MaskUnaries ++ rows ElementIndices) word ≡ scan mask_rows word
unfolding rows
mask_14 word is = same_narrow 0xfc000000 0x50000000 word is _ mask_rows refl

pub mask_17 : (word : ℕ) → bit_and word 0xfc000000 ≡ 0x5c000000 → scan (rows Compresses) word ≡ scan mask_rows word
unfolding rows
mask_17 word is = same_narrow 0xfc000000 0x5c000000 word is _ mask_rows refl

-- with any other funct6, only a logical operation on masks is possible
pub mask_other : (word : ℕ) → DiffersFrom (0x40000000 ∷ 0x48000000 ∷ 0x50000000 ∷ 0x5c000000 ∷ []) (bit_and word 0xfc000000)
    → scan (rows MaskLogics) word ≡ scan mask_rows word
unfolding rows
mask_other word h =
    sym (element_zero (rows MaskLogics) (rows Compresses ++ rows MasksToScalar ++ rows Extends ++ rows MaskUnaries ++ rows ElementIndices ++ rows MovesToScalar) word
    (no_scan 0xfc000000 (0x40000000 ∷ 0x48000000 ∷ 0x50000000 ∷ 0x5c000000 ∷ []) word _ refl h))

-- ---- accesses

other_rows : rows_where is_other_access ≡ rows Strideds ++ rows Indexeds ++ rows WholeLoads ++ rows WholeStores ++ rows MaskMemories
unfolding rows_where table rows
other_rows = refl

pub units : (word : ℕ) → scan (rows_where is_unit_stride) word ≡ scan (rows Units) word
unfolding rows_where table rows
units word = refl

-- mop and bit 23 are 0 in each unit-stride access, and in no other access
pub units_alone : (word : ℕ) → (bit_and word 0x7c ≡ 0x04) ⊎ (bit_and word 0x7c ≡ 0x24) → bit_and word 0x0c800000 ≡ 0
    → scan table word ≡ scan (rows_where is_unit_stride) word
unfolding rows
units_alone word opcode is =
    at_access word opcode
    ∙ same_narrow 0x0c800000 0 word is (rows Units ++ rows Strideds ++ rows Indexeds ++ rows WholeLoads ++ rows WholeStores ++ rows MaskMemories) (rows Units) refl
    ∙ sym (units word)

pub others_alone : (word : ℕ) → (bit_and word 0x7c ≡ 0x04) ⊎ (bit_and word 0x7c ≡ 0x24) → bit_and word 0x0c800000 ≢ 0
    → scan table word ≡ scan (rows_where is_other_access) word
unfolding rows
others_alone word opcode other =
    at_access word opcode
    ∙ scan_append (rows Units) (rows Strideds ++ rows Indexeds ++ rows WholeLoads ++ rows WholeStores ++ rows MaskMemories) word
    ∙ ap (λ o. option_or o (scan (rows Strideds ++ rows Indexeds ++ rows WholeLoads ++ rows WholeStores ++ rows MaskMemories) word)) (no_scan 0x0c800000 (0 ∷ []) word (rows Units) refl (other, tt))
    ∙ ap (λ t. scan t word) (sym other_rows)

-- among the other accesses, mop is 0 in each access of whole registers or of a mask, and in no other
pub registers_alone : (word : ℕ) → bit_and word 0x0c000000 ≡ 0 → scan (rows_where is_other_access) word ≡ scan (rows WholeLoads ++ rows WholeStores ++ rows MaskMemories) word
unfolding rows_where table rows
registers_alone word is = same_narrow 0x0c000000 0 word is (rows_where is_other_access) (rows WholeLoads ++ rows WholeStores ++ rows MaskMemories) refl

pub distances_alone : (word : ℕ) → bit_and word 0x0c000000 ≢ 0 → scan (rows_where is_other_access) word ≡ scan (rows Strideds ++ rows Indexeds) word
unfolding rows
distances_alone word other =
    ap (λ t. scan t word) other_rows
    ∙ element_zero (rows Strideds ++ rows Indexeds) (rows WholeLoads ++ rows WholeStores ++ rows MaskMemories) word
    (no_scan 0x0c000000 (0 ∷ []) word _ refl (other, tt))

-- ---- calls and breakpoints

pub csrs : (word : ℕ) → scan (rows_where is_csr) word ≡ scan (rows Csrs ++ rows CsrImmediates) word
unfolding rows_where table rows
csrs word = refl

pub call_found : (word : ℕ) (found : Option SystemOp) → bit_and word 0x7c ≡ 0x70
    → option_map (λ op. instr.Scalar (System op)) found ≡ scan (rows Systems) word
    → IfSome found (λ op. scan table word ≡ Some (instr.Scalar (System op)))
unfolding rows
call_found word found is e =
    first_found (λ op. instr.Scalar (System op)) found (scan table word) (rows Systems) (rows Csrs ++ rows CsrImmediates) word (at_70 word is) e

pub call_missed : (word : ℕ) (found : Option SystemOp) → bit_and word 0x7c ≡ 0x70
    → option_map (λ op. instr.Scalar (System op)) found ≡ scan (rows Systems) word
    → IfNone found (scan table word ≡ scan (rows_where is_csr) word)
unfolding rows
call_missed word found is e =
    first_missed (λ op. instr.Scalar (System op)) found (scan table word) (scan (rows_where is_csr) word) (rows Systems) (rows Csrs ++ rows CsrImmediates) word (at_70 word is) (csrs word) e

pub ruleset funct6_steps = (funct6_10, funct6_12, funct6_14, funct6_17)

pub ruleset mask_steps = (mask_10, mask_12, mask_14, mask_17)

pub ruleset unit_steps = (units_alone, others_alone)

pub ruleset register_steps = (registers_alone, distances_alone)

pub ruleset call_steps = (call_found, call_missed)

pub ruleset table_operation_steps =
    (some_0057, none_0057, some_4057, none_4057, some_3057, none_3057, some_2057, none_2057, some_6057, none_6057, none_7057)

pub ruleset other_operation_steps = (other_operation_0057, other_operation_4057, other_operation_3057, other_operation_2057, other_operation_6057, other_operation_7057)

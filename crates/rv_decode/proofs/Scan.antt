-- Results of a scan of each family of rows, and the families that a word's opcode selects.
use Rattle.std.proofs.Common.{◌≡◌, refl, ap, ap₂, ◌∙◌, sym, ℕ, ◌+◌, ◌*◌, ◌/◌, ◌%◌, ◌^◌, ◌<◌, List, [], ◌∷◌, ◌++◌, map, Option, Some, None, Bool, true, false, nat_eq, cond, ◌&&◌, inl, inr, ◌⊎◌, arith}
use Rattle.std.specs.Int.Bits.{bit_and}
use Rattle.std.specs.Option.{option_map}
use Rattle.std.proofs.lemmas.Nat.{and_mask}
use Rattle.std.proofs.lemmas.Bool.Decides.{eqb_tells}
use Rattle.std.proofs.lemmas.Bool.{eq-eqb}
use Rattle.std.proofs.Math.Nat.{mod-eq_of_lt}
use Rattle.rv_model.specs.declared.instructions.operations.Major.{Major}
use Rattle.rv_model.specs.declared.instructions.operations.Major.TheVariants.{Opi, Opm}
use Rattle.rv_model.specs.declared.instructions.operations.Line.{Line}
use Rattle.rv_model.specs.declared.instructions.operations.Form.{Form}
use Rattle.rv_model.specs.declared.instructions.operations.Form.TheVariants as form
use Rattle.rv_model.specs.declared.instructions.instruction.Instr.{Instr}
use Rattle.rv_model.specs.declared.instructions.instruction.Instr.TheVariants as instr
use Rattle.rv_model.specs.declared.instructions.scalar.ScalarInstr.{ScalarInstr}
use Rattle.rv_model.specs.declared.instructions.scalar.ScalarInstr.TheVariants.{Upper, Branch, Load, Store, RegisterImmediate, ShiftImmediate, ShiftImmediateWord, RegisterRegister, System}
use Rattle.rv_model.specs.declared.instructions.csr.CsrInstr.TheVariants.{Register, Immediate}
use Rattle.rv_model.specs.declared.instructions.vector.VectorInstr.TheVariants.{Arith, Carry, WholeMove, MaskLogic, MaskToScalar, Extend, MaskUnary}
use Rattle.rv_model.specs.declared.instructions.access.AccessInstr.TheVariants.{UnitStride, Strided, Indexed, WholeLoad, WholeStore, MaskAccess}
use Rattle.rv_model.specs.instructions.FixedBits.{part, fixed}
use Rattle.rv_model.specs.instructions.Operations.{source_of, has_form, line, carry_line, line_bits, major_bits, vector_ops}
use Rattle.rv_model.specs.lending.ListedBits.{whole_move_bits, mask_memory_bits, upper_bits, branch_bits, load_bits, store_bits, immediate_op_bits, shift_immediate_bits, shift_immediate_word_bits, register_op_bits, system_bits, csr_bits, csr_immediate_bits, mask_logic_bits, mask_to_scalar_bits, extend_bits, mask_unary_bits, unit_access_bits, strided_access_bits, indexed_access_bits, whole_load_bits, whole_store_bits}
use Rattle.rv_model.specs.lending.Families.{upper_ops, branch_ops, load_ops, store_ops, immediate_ops, shift_immediate_ops, shift_immediate_word_ops, register_ops, system_ops, csr_ops, csr_immediate_ops, mask_logic_ops, mask_to_scalar_ops, extend_ops, mask_unary_ops, carry_ops, filled, row_of, rows, Family, unit_accesses, strided_accesses, indexed_accesses, whole_loads, Uppers, Jumps, JumpRegisters, Branches, Loads, Stores, RegisterImmediates, ShiftImmediates, ShiftImmediateWords, RegisterRegisters, Fences, Systems, Csrs, CsrImmediates, SetVlis, SetIvlis, SetVls, Ariths, Carries, Moves, WholeMoves, MaskLogics, Compresses, MasksToScalar, Extends, MaskUnaries, ElementIndices, MovesToScalar, MovesToVector, Units, Strideds, Indexeds, WholeLoads, WholeStores, MaskMemories}
use Rattle.rv_model.specs.instructions.Table.{Row, directions, counts, table, scan, parts, bits}
use Rattle.rv_model.specs.lending.Search.{same_major, those, find, find_at}
use Rattle.rv_model.proofs.instruction_lemmas.Words.{form_source_of}
use Rattle.rv_model.proofs.instruction_lemmas.Parts.{masked}
use Rattle.rv_model.proofs.instruction_lemmas.Scans.{narrowed, scan_narrow, same_narrow, no_scan, DiffersFrom}

-- the result of a scan of a family's rows, by the operation that was found
abbrev pub answer : {A : Type 0} → (A → Instr) → ℕ → Option A → Option Instr
answer t word None = None
answer t word (Some op) = Some (filled (t op) word)

answer-cond : {A : Type 0} (t : A → Instr) (word : ℕ) (b : Bool) (op : A) (rest : Option A) (more : Option Instr)
    → more ≡ answer t word rest → cond b (Some (filled (t op) word)) more ≡ answer t word (cond b (Some op) rest)
answer-cond t word true op rest more e = refl
answer-cond t word false op rest more e = e

scan_map : {A : Type 0} (code : A → ℕ) (mask : ℕ) (t : A → Instr) → ((op : A) → fixed (parts (t op)) ≡ mask)
    → ((op : A) → bits (t op) ≡ code op) → (ops : List A) (word : ℕ)
    → scan (map row_of (map t ops)) word ≡ answer t word (find code ops (bit_and word mask))
unfolding scan find
scan_map code mask t em eb [] word = refl
scan_map code mask t em eb (op ∷ ops) word =
    ap₂ (λ m b. cond (nat_eq (bit_and word m) b) (Some (filled (t op) word)) (scan (map row_of (map t ops)) word)) (em op) (eb op)
    ∙ answer-cond t word (nat_eq (bit_and word mask) (code op)) op (find code ops (bit_and word mask)) (scan (map row_of (map t ops)) word) (scan_map code mask t em eb ops word)

same_major-eq : (m n : Major) → same_major m n ≡ true → m ≡ n
same_major-eq Opi Opi h = refl
same_major-eq Opm Opm h = refl
same_major-eq Opi Opm h = absurd (cc)
same_major-eq Opm Opi h = absurd (cc)

same_sum : (a b c : ℕ) → nat_eq (c + a * 2 ^ 26) (b * 2 ^ 26 + c) ≡ nat_eq a b
same_sum a b c =
    elim (eqb_tells a b) [
      | inl e ↦ eq-eqb (c + a * 2 ^ 26) (b * 2 ^ 26 + c) (let h : a ≡ b = e.1 in omega arith) ∙ sym e.0
      | inr n ↦ elim (eqb_tells (c + a * 2 ^ 26) (b * 2 ^ 26 + c)) [ inl e ↦ absurd (n.1 (let h : c + a * 2 ^ 26 ≡ b * 2 ^ 26 + c = e.1 in omega arith)) | inr k ↦ k.0 ∙ sym n.0 ]
    ]

and-true : (b : Bool) → b ≡ (true && (b && true))
and-true true = refl
and-true false = refl

and-false : (b : Bool) → false ≡ (true && (b && false))
and-false true = refl
and-false false = refl

those-step : {A : Type 0} (line : A → Line) (m : Major) (f : Form) (n : ℕ) (op : A) (ops : List A) (a b : Bool)
    → (a ≡ true → m ≡ (line op).major) → same_major m (line op).major ≡ a → has_form (line op).forms f ≡ b
    → find (λ o. line_bits (line o) f) (those line m f ops) (major_bits m f + n * 2 ^ 26) ≡ find_at line m f n ops
    → find (λ o. line_bits (line o) f) (cond (a && b) (op ∷ those line m f ops) (those line m f ops)) (major_bits m f + n * 2 ^ 26) ≡ cond (a && (nat_eq n (line op).funct6 && b)) (Some op) (find_at line m f n ops)
unfolding find
those-step line m f n op ops true true same ea eb ih =
    let e : m ≡ (line op).major = same refl in
    ap₂ (λ c r. cond c (Some op) r) (ap (λ x. nat_eq (major_bits m f + n * 2 ^ 26) ((line op).funct6 * 2 ^ 26 + major_bits x f)) (sym e) ∙ same_sum n (line op).funct6 (major_bits m f)) ih
    ∙ ap (λ c. cond c (Some op) (find_at line m f n ops)) (and-true (nat_eq n (line op).funct6))
those-step line m f n op ops true false same ea eb ih =
    ih ∙ ap (λ c. cond c (Some op) (find_at line m f n ops)) (and-false (nat_eq n (line op).funct6))
those-step line m f n op ops false b same ea eb ih = ih

those_find : {A : Type 0} (line : A → Line) (m : Major) (f : Form) (n : ℕ) (ops : List A)
    → find (λ o. line_bits (line o) f) (those line m f ops) (major_bits m f + n * 2 ^ 26) ≡ find_at line m f n ops
unfolding find find_at
those_find line m f n [] = refl
those_find line m f n (op ∷ ops) =
    those-step line m f n op ops (same_major m (line op).major) (has_form (line op).forms f) (same_major-eq m (line op).major) refl refl (those_find line m f n ops)

key_of : (word : ℕ) (c : ℕ) → word < 2 ^ 32 → bit_and word 0x707f ≡ c
    → bit_and word 0xfc00707f ≡ c + word / 2 ^ 26 * 2 ^ 26
key_of word c small is =
    sym (masked word 0x707f (part 26 6 0 ∷ []) refl) ∙ ap₂ (λ (a b : ℕ). a + b * 2 ^ 26) is (let h : word / 2 ^ 26 % 2 ^ 6 ≡ word / 2 ^ 26 = omega arith in h)

pub scan_arith : (m : Major) (f : Form) (word : ℕ) → word < 2 ^ 32 → bit_and word 0x707f ≡ major_bits m f
    → scan (rows (Ariths m f)) word ≡ answer (λ op. instr.Vector (Arith (op, source_of f 0) 0 0 true)) word (find_at line m f (word / 2 ^ 26) vector_ops)
unfolding rows
scan_arith m f word small is =
    scan_map (λ op. line_bits (line op) f) 0xfc00707f (λ op. instr.Vector (Arith (op, source_of f 0) 0 0 true)) (λ op. refl) (λ op. ap (line_bits (line op)) (form_source_of f 0)) (those line m f vector_ops) word
    ∙ ap (λ b. answer (λ op. instr.Vector (Arith (op, source_of f 0) 0 0 true)) word (find (λ op. line_bits (line op) f) (those line m f vector_ops) b)) (key_of word (major_bits m f) small is)
    ∙ ap (answer (λ op. instr.Vector (Arith (op, source_of f 0) 0 0 true)) word) (those_find line m f (word / 2 ^ 26) vector_ops)

pub scan_carry : (f : Form) (word : ℕ)
    → scan (rows (Carries f)) word ≡ answer (λ op. instr.Vector (Carry (op, source_of f 0) 0 0)) word (find (λ op. line_bits (carry_line op) f) (those carry_line Opi f carry_ops) (bit_and word 0xfe00707f))
unfolding rows
scan_carry f word =
    scan_map (λ op. line_bits (carry_line op) f) 0xfe00707f (λ op. instr.Vector (Carry (op, source_of f 0) 0 0)) (λ op. refl) (λ op. ap (line_bits (carry_line op)) (form_source_of f 0)) (those carry_line Opi f carry_ops) word

whole_word : (word : ℕ) → word < 2 ^ 32 → bit_and word 0xffffffff ≡ word
whole_word word small = and_mask word 32 ∙ mod-eq_of_lt small

pub scan_system : (word : ℕ) → word < 2 ^ 32
    → scan (rows Systems) word ≡ answer (λ op. instr.Scalar (System op)) word (find system_bits system_ops word)
unfolding rows
scan_system word small =
    scan_map system_bits 0xffffffff (λ op. instr.Scalar (System op)) (λ x. refl) (λ x. refl) system_ops word
    ∙ ap (λ w. answer (λ op. instr.Scalar (System op)) word (find system_bits system_ops w)) (whole_word word small)

-- a scan of a family's rows finds the operation by the bits that all operations of the family fix
abbrev pub Finds : {A : Type 0} → Family → (A → Instr) → (A → ℕ) → List A → ℕ → ℕ → Type 0
Finds family t code ops mask word = scan (rows family) word ≡ answer t word (find code ops (bit_and word mask))

pub scan_upper : (word : ℕ) → Finds Uppers (λ op. instr.Scalar (Upper op 0 0)) upper_bits upper_ops 0x0000007f word
unfolding rows
scan_upper word = scan_map upper_bits 0x0000007f (λ op. instr.Scalar (Upper op 0 0)) (λ x. refl) (λ x. refl) upper_ops word

pub scan_branch : (word : ℕ) → Finds Branches (λ op. instr.Scalar (Branch op 0 0 0)) branch_bits branch_ops 0x0000707f word
unfolding rows
scan_branch word = scan_map branch_bits 0x0000707f (λ op. instr.Scalar (Branch op 0 0 0)) (λ x. refl) (λ x. refl) branch_ops word

pub scan_load : (word : ℕ) → Finds Loads (λ op. instr.Scalar (Load op 0 0 0)) load_bits load_ops 0x0000707f word
unfolding rows
scan_load word = scan_map load_bits 0x0000707f (λ op. instr.Scalar (Load op 0 0 0)) (λ x. refl) (λ x. refl) load_ops word

pub scan_store : (word : ℕ) → Finds Stores (λ op. instr.Scalar (Store op 0 0 0)) store_bits store_ops 0x0000707f word
unfolding rows
scan_store word = scan_map store_bits 0x0000707f (λ op. instr.Scalar (Store op 0 0 0)) (λ x. refl) (λ x. refl) store_ops word

pub scan_register_immediate : (word : ℕ) → Finds RegisterImmediates (λ op. instr.Scalar (RegisterImmediate op 0 0 0)) immediate_op_bits immediate_ops 0x0000707f word
unfolding rows
scan_register_immediate word = scan_map immediate_op_bits 0x0000707f (λ op. instr.Scalar (RegisterImmediate op 0 0 0)) (λ x. refl) (λ x. refl) immediate_ops word

pub scan_shift_immediate : (word : ℕ) → Finds ShiftImmediates (λ op. instr.Scalar (ShiftImmediate op 0 0 0)) shift_immediate_bits shift_immediate_ops 0xfc00707f word
unfolding rows
scan_shift_immediate word = scan_map shift_immediate_bits 0xfc00707f (λ op. instr.Scalar (ShiftImmediate op 0 0 0)) (λ x. refl) (λ x. refl) shift_immediate_ops word

pub scan_shift_immediate_word : (word : ℕ) → Finds ShiftImmediateWords (λ op. instr.Scalar (ShiftImmediateWord op 0 0 0)) shift_immediate_word_bits shift_immediate_word_ops 0xfe00707f word
unfolding rows
scan_shift_immediate_word word = scan_map shift_immediate_word_bits 0xfe00707f (λ op. instr.Scalar (ShiftImmediateWord op 0 0 0)) (λ x. refl) (λ x. refl) shift_immediate_word_ops word

pub scan_register_register : (word : ℕ) → Finds RegisterRegisters (λ op. instr.Scalar (RegisterRegister op 0 0 0)) register_op_bits register_ops 0xfe00707f word
unfolding rows
scan_register_register word = scan_map register_op_bits 0xfe00707f (λ op. instr.Scalar (RegisterRegister op 0 0 0)) (λ x. refl) (λ x. refl) register_ops word

pub scan_csr : (word : ℕ) → Finds Csrs (λ op. instr.Csr (Register op 0 0 0)) csr_bits csr_ops 0x0000707f word
unfolding rows
scan_csr word = scan_map csr_bits 0x0000707f (λ op. instr.Csr (Register op 0 0 0)) (λ x. refl) (λ x. refl) csr_ops word

pub scan_csr_immediate : (word : ℕ) → Finds CsrImmediates (λ op. instr.Csr (Immediate op 0 0 0)) csr_immediate_bits csr_immediate_ops 0x0000707f word
unfolding rows
scan_csr_immediate word = scan_map csr_immediate_bits 0x0000707f (λ op. instr.Csr (Immediate op 0 0 0)) (λ x. refl) (λ x. refl) csr_immediate_ops word

pub scan_whole_move : (word : ℕ) → Finds WholeMoves (λ op. instr.Vector (WholeMove op 0 0)) whole_move_bits counts 0xfe0ff07f word
unfolding rows
scan_whole_move word = scan_map whole_move_bits 0xfe0ff07f (λ op. instr.Vector (WholeMove op 0 0)) (λ x. refl) (λ x. refl) counts word

pub scan_mask_logic : (word : ℕ) → Finds MaskLogics (λ op. instr.Vector (MaskLogic op 0 0 0)) mask_logic_bits mask_logic_ops 0xfe00707f word
unfolding rows
scan_mask_logic word = scan_map mask_logic_bits 0xfe00707f (λ op. instr.Vector (MaskLogic op 0 0 0)) (λ x. refl) (λ x. refl) mask_logic_ops word

pub scan_mask_to_scalar : (word : ℕ) → Finds MasksToScalar (λ op. instr.Vector (MaskToScalar op 0 0 true)) mask_to_scalar_bits mask_to_scalar_ops 0xfc0ff07f word
unfolding rows
scan_mask_to_scalar word = scan_map mask_to_scalar_bits 0xfc0ff07f (λ op. instr.Vector (MaskToScalar op 0 0 true)) (λ x. refl) (λ x. refl) mask_to_scalar_ops word

pub scan_extend : (word : ℕ) → Finds Extends (λ op. instr.Vector (Extend op 0 0 true)) extend_bits extend_ops 0xfc0ff07f word
unfolding rows
scan_extend word = scan_map extend_bits 0xfc0ff07f (λ op. instr.Vector (Extend op 0 0 true)) (λ x. refl) (λ x. refl) extend_ops word

pub scan_mask_unary : (word : ℕ) → Finds MaskUnaries (λ op. instr.Vector (MaskUnary op 0 0 true)) mask_unary_bits mask_unary_ops 0xfc0ff07f word
unfolding rows
scan_mask_unary word = scan_map mask_unary_bits 0xfc0ff07f (λ op. instr.Vector (MaskUnary op 0 0 true)) (λ x. refl) (λ x. refl) mask_unary_ops word

pub scan_unit : (word : ℕ) → Finds Units (λ op. instr.Access (UnitStride op.0 op.1 0 0 0 true)) unit_access_bits unit_accesses 0x1df0707f word
unfolding rows
scan_unit word = scan_map unit_access_bits 0x1df0707f (λ op. instr.Access (UnitStride op.0 op.1 0 0 0 true)) (λ x. refl) (λ x. refl) unit_accesses word

pub scan_strided : (word : ℕ) → Finds Strideds (λ op. instr.Access (Strided op.0 op.1 0 0 0 0 true)) strided_access_bits strided_accesses 0x1c00707f word
unfolding rows
scan_strided word = scan_map strided_access_bits 0x1c00707f (λ op. instr.Access (Strided op.0 op.1 0 0 0 0 true)) (λ x. refl) (λ x. refl) strided_accesses word

pub scan_indexed : (word : ℕ) → Finds Indexeds (λ op. instr.Access (Indexed op.0.0 op.0.1 op.1 0 0 0 0 true)) indexed_access_bits indexed_accesses 0x1c00707f word
unfolding rows
scan_indexed word = scan_map indexed_access_bits 0x1c00707f (λ op. instr.Access (Indexed op.0.0 op.0.1 op.1 0 0 0 0 true)) (λ x. refl) (λ x. refl) indexed_accesses word

pub scan_whole_load : (word : ℕ) → Finds WholeLoads (λ op. instr.Access (WholeLoad op.0 op.1 0 0)) whole_load_bits whole_loads 0xfff0707f word
unfolding rows
scan_whole_load word = scan_map whole_load_bits 0xfff0707f (λ op. instr.Access (WholeLoad op.0 op.1 0 0)) (λ x. refl) (λ x. refl) whole_loads word

pub scan_whole_store : (word : ℕ) → Finds WholeStores (λ op. instr.Access (WholeStore op 0 0)) whole_store_bits counts 0xfff0707f word
unfolding rows
scan_whole_store word = scan_map whole_store_bits 0xfff0707f (λ op. instr.Access (WholeStore op 0 0)) (λ x. refl) (λ x. refl) counts word

pub scan_mask_memory : (word : ℕ) → Finds MaskMemories (λ op. instr.Access (MaskAccess op 0 0)) mask_memory_bits directions 0xfff0707f word
unfolding rows
scan_mask_memory word = scan_map mask_memory_bits 0xfff0707f (λ op. instr.Access (MaskAccess op 0 0)) (λ x. refl) (λ x. refl) directions word

-- ---- the families that a word can belong to, by its opcode, and for vector operations by funct3 too

pub at_00 : (word : ℕ) → bit_and word 0x7c ≡ 0x00 → scan table word ≡ scan (rows Loads) word
unfolding table rows
at_00 word is = same_narrow 0x7c 0x00 word is table _ refl

pub at_04 : (word : ℕ) → bit_and word 0x7c ≡ 0x04
    → scan table word ≡ scan (rows Units ++ rows Strideds ++ rows Indexeds ++ rows WholeLoads ++ rows WholeStores ++ rows MaskMemories) word
unfolding table rows
at_04 word is = same_narrow 0x7c 0x04 word is table _ refl

pub at_0c : (word : ℕ) → bit_and word 0x7c ≡ 0x0c → scan table word ≡ scan (rows Fences) word
unfolding table rows
at_0c word is = same_narrow 0x7c 0x0c word is table _ refl

pub at_10 : (word : ℕ) → bit_and word 0x7c ≡ 0x10 → scan table word ≡ scan (rows RegisterImmediates ++ rows ShiftImmediates) word
unfolding table rows
at_10 word is = same_narrow 0x7c 0x10 word is table _ refl

pub at_14 : (word : ℕ) → bit_and word 0x7c ≡ 0x14 → scan table word ≡ scan (rows Uppers) word
unfolding table rows
at_14 word is = same_narrow 0x7c 0x14 word is table _ refl

pub at_18 : (word : ℕ) → bit_and word 0x7c ≡ 0x18 → scan table word ≡ scan (rows RegisterImmediates ++ rows ShiftImmediateWords) word
unfolding table rows
at_18 word is = same_narrow 0x7c 0x18 word is table _ refl

pub at_20 : (word : ℕ) → bit_and word 0x7c ≡ 0x20 → scan table word ≡ scan (rows Stores) word
unfolding table rows
at_20 word is = same_narrow 0x7c 0x20 word is table _ refl

pub at_24 : (word : ℕ) → bit_and word 0x7c ≡ 0x24
    → scan table word ≡ scan (rows Units ++ rows Strideds ++ rows Indexeds ++ rows WholeLoads ++ rows WholeStores ++ rows MaskMemories) word
unfolding table rows
at_24 word is = same_narrow 0x7c 0x24 word is table _ refl

pub at_30 : (word : ℕ) → bit_and word 0x7c ≡ 0x30 → scan table word ≡ scan (rows RegisterRegisters) word
unfolding table rows
at_30 word is = same_narrow 0x7c 0x30 word is table _ refl

pub at_34 : (word : ℕ) → bit_and word 0x7c ≡ 0x34 → scan table word ≡ scan (rows Uppers) word
unfolding table rows
at_34 word is = same_narrow 0x7c 0x34 word is table _ refl

pub at_38 : (word : ℕ) → bit_and word 0x7c ≡ 0x38 → scan table word ≡ scan (rows RegisterRegisters) word
unfolding table rows
at_38 word is = same_narrow 0x7c 0x38 word is table _ refl

pub at_60 : (word : ℕ) → bit_and word 0x7c ≡ 0x60 → scan table word ≡ scan (rows Branches) word
unfolding table rows
at_60 word is = same_narrow 0x7c 0x60 word is table _ refl

pub at_64 : (word : ℕ) → bit_and word 0x7c ≡ 0x64 → scan table word ≡ scan (rows JumpRegisters) word
unfolding table rows
at_64 word is = same_narrow 0x7c 0x64 word is table _ refl

pub at_6c : (word : ℕ) → bit_and word 0x7c ≡ 0x6c → scan table word ≡ scan (rows Jumps) word
unfolding table rows
at_6c word is = same_narrow 0x7c 0x6c word is table _ refl

pub at_70 : (word : ℕ) → bit_and word 0x7c ≡ 0x70
    → scan table word ≡ scan (rows Systems ++ rows Csrs ++ rows CsrImmediates) word
unfolding table rows
at_70 word is = same_narrow 0x7c 0x70 word is table _ refl

pub at_0057 : (word : ℕ) → bit_and word 0x707f ≡ 0x0057
    → scan table word ≡ scan (rows (Ariths Opi form.V) ++ rows (Carries form.V) ++ rows (Moves form.V)) word
unfolding table rows
at_0057 word is = same_narrow 0x707f 0x0057 word is table _ refl

pub at_4057 : (word : ℕ) → bit_and word 0x707f ≡ 0x4057
    → scan table word ≡ scan (rows (Ariths Opi form.X) ++ rows (Carries form.X) ++ rows (Moves form.X)) word
unfolding table rows
at_4057 word is = same_narrow 0x707f 0x4057 word is table _ refl

pub at_3057 : (word : ℕ) → bit_and word 0x707f ≡ 0x3057
    → scan table word ≡ scan (rows (Ariths Opi form.I) ++ rows (Carries form.I) ++ rows (Moves form.I) ++ rows WholeMoves) word
unfolding table rows
at_3057 word is = same_narrow 0x707f 0x3057 word is table _ refl

pub at_2057 : (word : ℕ) → bit_and word 0x707f ≡ 0x2057
    → scan table word ≡ scan (rows (Ariths Opm form.V) ++ rows MaskLogics ++ rows Compresses ++ rows MasksToScalar ++ rows Extends ++ rows MaskUnaries ++ rows ElementIndices ++ rows MovesToScalar) word
unfolding table rows
at_2057 word is = same_narrow 0x707f 0x2057 word is table _ refl

pub at_6057 : (word : ℕ) → bit_and word 0x707f ≡ 0x6057
    → scan table word ≡ scan (rows (Ariths Opm form.X) ++ rows MovesToVector) word
unfolding table rows
at_6057 word is = same_narrow 0x707f 0x6057 word is table _ refl

pub at_7057 : (word : ℕ) → bit_and word 0x707f ≡ 0x7057
    → scan table word ≡ scan (rows SetVlis ++ rows SetIvlis ++ rows SetVls) word
unfolding table rows
at_7057 word is = same_narrow 0x707f 0x7057 word is table _ refl

pub at_access : (word : ℕ) → (bit_and word 0x7c ≡ 0x04) ⊎ (bit_and word 0x7c ≡ 0x24)
    → scan table word ≡ scan (rows Units ++ rows Strideds ++ rows Indexeds ++ rows WholeLoads ++ rows WholeStores ++ rows MaskMemories) word
at_access word (inl load) = at_04 word load
at_access word (inr store) = at_24 word store

-- every opcode of the table
abbrev pub opcodes : List ℕ
opcodes =
    0x00 ∷ 0x04 ∷ 0x0c ∷ 0x10 ∷ 0x14 ∷ 0x18 ∷ 0x20 ∷ 0x24 ∷ 0x30 ∷ 0x34 ∷ 0x38 ∷ 0x54 ∷ 0x60 ∷ 0x64 ∷ 0x6c ∷ 0x70 ∷ []

pub no_opcode : (word : ℕ) → DiffersFrom opcodes (bit_and word 0x7c) → scan table word ≡ None
unfolding table rows
no_opcode word h = no_scan 0x7c opcodes word table refl h

-- funct3 and opcode of each family of vector operations
abbrev pub places : List ℕ
places = 0x0057 ∷ 0x4057 ∷ 0x3057 ∷ 0x2057 ∷ 0x6057 ∷ 0x7057 ∷ []

pub no_place : (word : ℕ) → bit_and word 0x7c ≡ 0x54 → DiffersFrom places (bit_and word 0x707f)
    → scan table word ≡ None
unfolding table rows
no_place word is h =
    scan_narrow 0x7c 0x54 word is table ∙ no_scan 0x707f places word (narrowed 0x7c 0x54 table) refl h

-- if the decoder of a word's families finds no instruction, the whole table has none
pub missed : (word : ℕ) (found : Option ScalarInstr) (xs : List Row) → scan table word ≡ scan xs word → option_map instr.Scalar found ≡ scan xs word → found ≡ None → scan table word ≡ None
missed word found xs at row none = at ∙ sym row ∙ ap (option_map instr.Scalar) none

pub ruleset opcode_steps =
    (at_00, at_0c, at_10, at_14, at_18, at_20, at_30, at_34, at_38, at_60, at_64, at_6c)

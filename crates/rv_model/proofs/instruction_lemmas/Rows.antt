-- Each instruction has a row in the table
use Rattle.std.proofs.Common.{◌≡◌, refl, ap, sym, subst, ℕ, zero, suc, List, [], ◌∷◌, ◌++◌, map, Some, None, Bool, true, nat_eq, cond, inl, inr, arith}
use Rattle.std.specs.Int.Bits.{bit_and}
use Rattle.std.proofs.lemmas.Bool.{eqb-true}
use Rattle.rv_model.specs.declared.instructions.source.Source.{Source}
use Rattle.rv_model.specs.declared.instructions.source.Source.TheVariants as source
use Rattle.rv_model.specs.declared.instructions.operations.Line.{Line}
use Rattle.rv_model.specs.declared.instructions.operations.Form.{Form}
use Rattle.rv_model.specs.declared.instructions.operations.Form.TheVariants as form
use Rattle.rv_model.specs.declared.instructions.operations.VectorOp.{VectorOp}
use Rattle.rv_model.specs.declared.instructions.operations.VectorOp.TheVariants as vector_op
use Rattle.rv_model.specs.declared.instructions.operations.BinaryOp.TheVariants as binary
use Rattle.rv_model.specs.declared.instructions.operations.CarryOutOp.TheVariants as carry_out
use Rattle.rv_model.specs.declared.instructions.operations.CompareOp.TheVariants as compare
use Rattle.rv_model.specs.declared.instructions.operations.FixedPointOp.TheVariants as fixed_point
use Rattle.rv_model.specs.declared.instructions.operations.NarrowShiftOp.TheVariants as narrow_shift
use Rattle.rv_model.specs.declared.instructions.operations.ClipOp.TheVariants as clip
use Rattle.rv_model.specs.declared.instructions.operations.WidenOp.TheVariants as widen
use Rattle.rv_model.specs.declared.instructions.operations.WideSourceOp.TheVariants as wide_source
use Rattle.rv_model.specs.declared.instructions.operations.MultiplyAddOp.TheVariants as multiply_add
use Rattle.rv_model.specs.declared.instructions.operations.WidenMultiplyAddOp.TheVariants as widen_multiply_add
use Rattle.rv_model.specs.declared.instructions.operations.ReduceOp.TheVariants as reduce
use Rattle.rv_model.specs.declared.instructions.operations.WidenReduceOp.TheVariants as widen_reduce
use Rattle.rv_model.specs.declared.instructions.operations.PermuteOp.TheVariants as permute
use Rattle.rv_model.specs.declared.instructions.operations.CarryOp.{CarryOp}
use Rattle.rv_model.specs.declared.instructions.operations.CarryOp.TheVariants as carry
use Rattle.rv_model.specs.declared.instructions.operations.UpperOp.TheVariants as upper
use Rattle.rv_model.specs.declared.instructions.operations.BranchOp.TheVariants as branch
use Rattle.rv_model.specs.declared.instructions.operations.LoadOp.TheVariants as load
use Rattle.rv_model.specs.declared.instructions.operations.StoreOp.TheVariants as store
use Rattle.rv_model.specs.declared.instructions.operations.ImmediateOp.TheVariants as immediate
use Rattle.rv_model.specs.declared.instructions.operations.ShiftImmediateOp.TheVariants as shift_immediate
use Rattle.rv_model.specs.declared.instructions.operations.ShiftImmediateWordOp.TheVariants as shift_immediate_word
use Rattle.rv_model.specs.declared.instructions.operations.RegisterOp.TheVariants as register
use Rattle.rv_model.specs.declared.instructions.operations.SystemOp.TheVariants as system
use Rattle.rv_model.specs.declared.instructions.operations.CsrOp.TheVariants as csr
use Rattle.rv_model.specs.declared.instructions.operations.CsrImmediateOp.TheVariants as csr_immediate
use Rattle.rv_model.specs.declared.instructions.operations.MaskLogicOp.TheVariants as mask_logic
use Rattle.rv_model.specs.declared.instructions.operations.MaskToScalarOp.TheVariants as mask_to_scalar
use Rattle.rv_model.specs.declared.instructions.operations.ExtendOp.TheVariants as extend
use Rattle.rv_model.specs.declared.instructions.operations.MaskUnaryOp.{MaskUnaryOp}
use Rattle.rv_model.specs.declared.instructions.operations.Eew.{Eew}
use Rattle.rv_model.specs.declared.instructions.operations.UnitOp.{UnitOp}
use Rattle.rv_model.specs.declared.instructions.operations.Direction.{Direction}
use Rattle.rv_model.specs.declared.instructions.operations.Direction.TheVariants as direction
use Rattle.rv_model.specs.declared.instructions.operations.Order.{Order}
use Rattle.rv_model.specs.declared.instructions.operations.RegisterCount.{RegisterCount}
use Rattle.rv_model.specs.declared.instructions.operations.RegisterCount.TheVariants as count
use Rattle.rv_model.specs.declared.instructions.instruction.Instr.{Instr}
use Rattle.rv_model.specs.declared.instructions.instruction.Instr.TheVariants as instr
use Rattle.rv_model.specs.declared.instructions.scalar.ScalarInstr.TheVariants.{Upper, Jump, JumpRegister, Branch, Load, Store, RegisterImmediate, ShiftImmediate, ShiftImmediateWord, RegisterRegister, Fence, System}
use Rattle.rv_model.specs.declared.instructions.csr.CsrInstr.TheVariants.{Register, Immediate}
use Rattle.rv_model.specs.declared.instructions.vector.VectorInstr.TheVariants.{SetVli, SetIvli, SetVl, Arith, Carry, Move, WholeMove, MaskLogic, Compress, MaskToScalar, Extend, MaskUnary, ElementIndex, MoveToScalar, MoveToVector}
use Rattle.rv_model.specs.declared.instructions.access.AccessInstr.TheVariants.{UnitStride, Strided, Indexed, WholeLoad, WholeStore, MaskAccess}
use Rattle.rv_model.specs.instructions.FixedBits.{fixed}
use Rattle.rv_model.specs.instructions.Operations.{form_of, source_of, carry_line, has_form, line, line_bits, vector_ops}
use Rattle.rv_model.specs.lending.ListedBits.{Allowed, whole_move_bits, mask_memory_bits, unit_access_bits, strided_access_bits, indexed_access_bits, whole_load_bits, whole_store_bits, upper_bits, branch_bits, load_bits, store_bits, immediate_op_bits, shift_immediate_bits, shift_immediate_word_bits, register_op_bits, system_bits, csr_bits, csr_immediate_bits, mask_logic_bits, mask_to_scalar_bits, extend_bits, mask_unary_bits}
use Rattle.rv_model.specs.instructions.Table.{parts, bits, Row, counts, directions, table}
use Rattle.std.specs.Prelude.{filter, flat_map}
use Rattle.std.proofs.lemmas.Bool.Decides.{nat_tests}
use Rattle.rv_model.specs.lending.Families.{row_of, templates, upper_ops, branch_ops, load_ops, store_ops, immediate_ops, shift_immediate_ops, shift_immediate_word_ops, register_ops, system_ops, csr_ops, csr_immediate_ops, carry_ops, mask_logic_ops, mask_to_scalar_ops, extend_ops, mask_unary_ops, unit_accesses, strided_accesses, indexed_accesses, whole_loads, Uppers, Jumps, JumpRegisters, Branches, Loads, Stores, RegisterImmediates, ShiftImmediates, ShiftImmediateWords, RegisterRegisters, Fences, Systems, Csrs, CsrImmediates, SetVlis, SetIvlis, SetVls, Moves, WholeMoves, MaskLogics, Compresses, MasksToScalar, Extends, MaskUnaries, ElementIndices, MovesToScalar, MovesToVector, Units, Strideds, Indexeds, WholeLoads, WholeStores, MaskMemories}
use Rattle.rv_model.specs.lending.Search.{find}
use Rattle.rv_model.proofs.instruction_lemmas.Scans.{In, table_inside, all_in}
use Rattle.rv_model.proofs.Choices.{first_or}

in_left : (r : Row) (xs ys : List Row) → In r xs → In r (xs ++ ys)
in_left r [] ys h = absurd h
in_left r (x ∷ xs) ys (inl e) = inl e
in_left r (x ∷ xs) ys (inr h) = inr (in_left r xs ys h)

in_right : (r : Row) (xs ys : List Row) → In r ys → In r (xs ++ ys)
in_right r [] ys h = h
in_right r (x ∷ xs) ys h = inr (in_right r xs ys h)

abbrev ariths : Form → List Instr
ariths f = map (λ op. instr.Vector (Arith (op, source_of f 0) 0 0 true)) (filter (λ op. has_form (line op).forms f) vector_ops)

abbrev carries : Form → List Instr
carries f = map (λ op. instr.Vector (Carry (op, source_of f 0) 0 0)) (filter (λ op. has_form (carry_line op).forms f) carry_ops)

-- an instruction for each row, in the order of the table
abbrev pub groups : List (List Instr)
groups =
    map templates (Uppers ∷ Jumps ∷ JumpRegisters ∷ Branches ∷ Loads ∷ Stores ∷ RegisterImmediates ∷ ShiftImmediates ∷ ShiftImmediateWords ∷ [])
    ++ map templates (RegisterRegisters ∷ Fences ∷ Systems ∷ Csrs ∷ CsrImmediates ∷ SetVlis ∷ SetIvlis ∷ SetVls ∷ [])
    ++ (ariths form.V ∷ ariths form.X ∷ ariths form.I ∷ carries form.V ∷ carries form.X ∷ carries form.I ∷ [])
    ++ map templates (Moves form.V ∷ Moves form.X ∷ Moves form.I ∷ WholeMoves ∷ MaskLogics ∷ Compresses ∷ MasksToScalar ∷ Extends ∷ [])
    ++ map templates (MaskUnaries ∷ ElementIndices ∷ MovesToScalar ∷ MovesToVector ∷ Units ∷ Strideds ∷ Indexeds ∷ [])
    ++ map templates (WholeLoads ∷ WholeStores ∷ MaskMemories ∷ [])

pub table_groups : table ≡ flat_map (map row_of) groups
unfolding table
table_groups = refl

abbrev at_place : List (List Instr) → ℕ → List Instr
at_place [] k = []
at_place (l ∷ ls) zero = l
at_place (l ∷ ls) (suc k) = at_place ls k

in_flat : (gs : List (List Instr)) (k : ℕ) (r : Row) → In r (map row_of (at_place gs k)) → In r (flat_map (map row_of) gs)
in_flat [] k r h = absurd h
in_flat (g ∷ gs) zero r h = in_left r (map row_of g) (flat_map (map row_of) gs) h
in_flat (g ∷ gs) (suc k) r h = in_right r (map row_of g) (flat_map (map row_of) gs) (in_flat gs k r h)

-- ---- a search by its bits finds each operation

known_mask_unary : (op : MaskUnaryOp) → find mask_unary_bits mask_unary_ops (mask_unary_bits op) ≡ Some op
unfolding find
known_mask_unary op = search (arith, nat_tests)

known_unit : (op : UnitOp) (width : Eew)
    → find unit_access_bits unit_accesses (unit_access_bits (op, width)) ≡ Some (op, width)
unfolding find
known_unit op width = search (arith, nat_tests)

known_strided : (op : Direction) (width : Eew)
    → find strided_access_bits strided_accesses (strided_access_bits (op, width)) ≡ Some (op, width)
unfolding find
known_strided op width = search (arith, nat_tests)

known_whole_load : (op : RegisterCount) (width : Eew)
    → find whole_load_bits whole_loads (whole_load_bits (op, width)) ≡ Some (op, width)
unfolding find
known_whole_load op width = search (arith, nat_tests)

known_indexed : (direction : Direction) (order : Order) (width : Eew)
    → find indexed_access_bits indexed_accesses (indexed_access_bits ((direction, order), width)) ≡ Some ((direction, order), width)
unfolding find
known_indexed direction order width = search (arith, nat_tests)

-- a search by a row's bits finds the operation with this row, in each form that it has
abbrev IsKnown : VectorOp → Line → Form → Type 0
IsKnown op l f =
    cond (has_form l.forms f) (find (λ o. line_bits (line o) f) (filter (λ o. has_form (line o).forms f) vector_ops) (line_bits l f)) None
    ≡ cond (has_form l.forms f) (Some op) None

known_carry : (op : CarryOp) (f : Form)
    → cond (has_form (carry_line op).forms f) (find (λ o. line_bits (carry_line o) f) (filter (λ o. has_form (carry_line o).forms f) carry_ops) (line_bits (carry_line op) f)) None ≡ cond (has_form (carry_line op).forms f) (Some op) None
unfolding find
known_carry op f = search (arith, nat_tests)

known_vector : (op : VectorOp) (f : Form) → IsKnown op (line op) f
unfolding find
known_vector (vector_op.Binary binary.Vadd) form.V = refl
known_vector (vector_op.CarryOut carry_out.Vmadc) form.V = refl
known_vector (vector_op.Compare compare.Vmseq) form.V = refl
known_vector (vector_op.FixedPoint fixed_point.Vsaddu) form.V = refl
known_vector (vector_op.NarrowShift narrow_shift.Vnsrl) form.V = refl
known_vector (vector_op.Clip clip.Vnclipu) form.V = refl
known_vector (vector_op.Widen widen.Vwaddu) form.V = refl
known_vector (vector_op.WideSource wide_source.Vwaddu) form.V = refl
known_vector (vector_op.MultiplyAdd multiply_add.Vmadd) form.V = refl
known_vector (vector_op.WidenMultiplyAdd widen_multiply_add.Vwmaccu) form.V = refl
known_vector (vector_op.Reduce reduce.Vredsum) form.V = refl
known_vector (vector_op.WidenReduce widen_reduce.Vwredsumu) form.V = refl
known_vector (vector_op.Permute permute.Vrgather) form.V = refl
known_vector _ form.V = refl
known_vector _ _ = refl

cond-same : {A : Type 0} (b : Bool) (x y z : A) → cond b x z ≡ cond b y z → b ≡ true → x ≡ y
cond-same b x y z h t = search

-- ---- each instruction has its row

in_rows : {A : Type 0} (code : A → ℕ) (t : A → Instr) (ops : List A) (op : A) (b : ℕ) → find code ops b ≡ Some op
    → In (row_of (t op)) (map row_of (map t ops))
unfolding find
in_rows code t [] op b h = absurd (cc)
in_rows code t (o ∷ os) op b h =
    elim (first_or (nat_eq b (code o)) o op (find code os b) h) [
      | inl e ↦ inl (ap (λ x. row_of (t x)) e.1)
      | inr later ↦ inr (in_rows code t os op b later)
    ]

in_table : (k : ℕ) (r : Row) → In r (map row_of (at_place groups k)) → In r table
in_table k r h = subst (In r) (sym table_groups) (in_flat groups k r h)

listed_at : {A : Type 0} (k : ℕ) (code : A → ℕ) (t : A → Instr) (ops : List A) (op : A)
    → find code ops (code op) ≡ Some op → at_place groups k ≡ map t ops
    → In (row_of (t op)) table
listed_at k code t ops op known same =
    in_table k (row_of (t op)) (subst (λ g. In (row_of (t op)) (map row_of g)) (sym same) (in_rows code t ops op (code op) known))

-- a search in the list of operations with one form
in_form : {A : Type 0} (line_of : A → Line) (t : Form → A → Instr) (all : List A) (f : Form) (k : ℕ) (op : A)
    → cond (has_form (line_of op).forms f) (find (λ o. line_bits (line_of o) f) (filter (λ o. has_form (line_of o).forms f) all) (line_bits (line_of op) f)) None
    ≡ cond (has_form (line_of op).forms f) (Some op) None
    → has_form (line_of op).forms f ≡ true → at_place groups k ≡ map (t f) (filter (λ o. has_form (line_of o).forms f) all)
    → In (row_of (t f op)) table
in_form line_of t all f k op known h same =
    listed_at k (λ o. line_bits (line_of o) f) (t f) (filter (λ o. has_form (line_of o).forms f) all) op (cond-same (has_form (line_of op).forms f) _ _ _ known h) same

abbrev arith_of : Form → VectorOp → Instr
arith_of f op = instr.Vector (Arith (op, source_of f 0) 0 0 true)

listed_arith : (op : VectorOp) (s : Source) (vd vs2 : ℕ) (vm : Bool) → has_form (line op).forms (form_of s) ≡ true
    → In (row_of (instr.Vector (Arith (op, s) vd vs2 vm))) table
listed_arith op (source.V n) vd vs2 vm h = in_form line arith_of vector_ops form.V 17 op (known_vector op form.V) h refl
listed_arith op (source.X n) vd vs2 vm h = in_form line arith_of vector_ops form.X 18 op (known_vector op form.X) h refl
listed_arith op (source.I n) vd vs2 vm h = in_form line arith_of vector_ops form.I 19 op (known_vector op form.I) h refl

abbrev carry_of : Form → CarryOp → Instr
carry_of f op = instr.Vector (Carry (op, source_of f 0) 0 0)

listed_carry : (op : CarryOp) (s : Source) (vd vs2 : ℕ) → has_form (carry_line op).forms (form_of s) ≡ true
    → In (row_of (instr.Vector (Carry (op, s) vd vs2))) table
listed_carry op (source.V n) vd vs2 h = in_form carry_line carry_of carry_ops form.V 20 op (known_carry op form.V) h refl
listed_carry op (source.X n) vd vs2 h = in_form carry_line carry_of carry_ops form.X 21 op (known_carry op form.X) h refl
listed_carry op (source.I n) vd vs2 h = in_form carry_line carry_of carry_ops form.I 22 op (known_carry op form.I) h refl

listed_move : (s : Source) (vd : ℕ) → In (row_of (instr.Vector (Move s vd))) table
listed_move (source.V n) vd = in_table 23 (row_of (instr.Vector (Move (source.V 0) 0))) (inl refl)
listed_move (source.X n) vd = in_table 24 (row_of (instr.Vector (Move (source.X 0) 0))) (inl refl)
listed_move (source.I n) vd = in_table 25 (row_of (instr.Vector (Move (source.I 0) 0))) (inl refl)

-- an instruction's row is in the table
pub listed : (i : Instr) → Allowed i → In (row_of i) table
unfolding find
listed (instr.Scalar (Upper upper.Lui rd imm)) h = listed_at 0 upper_bits (λ op. instr.Scalar (Upper op 0 0)) upper_ops upper.Lui refl refl
listed (instr.Scalar (Upper op rd imm)) h = listed_at 0 upper_bits (λ op. instr.Scalar (Upper op 0 0)) upper_ops op refl refl
listed (instr.Scalar (Jump rd imm)) h = in_table 1 (row_of (instr.Scalar (Jump 0 0))) (inl refl)
listed (instr.Scalar (JumpRegister rd rs1 imm)) h = in_table 2 (row_of (instr.Scalar (JumpRegister 0 0 0))) (inl refl)
listed (instr.Scalar (Branch branch.Beq rs1 rs2 imm)) h = listed_at 3 branch_bits (λ op. instr.Scalar (Branch op 0 0 0)) branch_ops branch.Beq refl refl
listed (instr.Scalar (Branch op rs1 rs2 imm)) h = listed_at 3 branch_bits (λ op. instr.Scalar (Branch op 0 0 0)) branch_ops op refl refl
listed (instr.Scalar (Load load.Lb rd rs1 imm)) h = listed_at 4 load_bits (λ op. instr.Scalar (Load op 0 0 0)) load_ops load.Lb refl refl
listed (instr.Scalar (Load op rd rs1 imm)) h = listed_at 4 load_bits (λ op. instr.Scalar (Load op 0 0 0)) load_ops op refl refl
listed (instr.Scalar (Store store.Sb rs1 rs2 imm)) h = listed_at 5 store_bits (λ op. instr.Scalar (Store op 0 0 0)) store_ops store.Sb refl refl
listed (instr.Scalar (Store op rs1 rs2 imm)) h = listed_at 5 store_bits (λ op. instr.Scalar (Store op 0 0 0)) store_ops op refl refl
listed (instr.Scalar (RegisterImmediate immediate.Addi rd rs1 imm)) h = listed_at 6 immediate_op_bits (λ op. instr.Scalar (RegisterImmediate op 0 0 0)) immediate_ops immediate.Addi refl refl
listed (instr.Scalar (RegisterImmediate op rd rs1 imm)) h = listed_at 6 immediate_op_bits (λ op. instr.Scalar (RegisterImmediate op 0 0 0)) immediate_ops op refl refl
listed (instr.Scalar (ShiftImmediate shift_immediate.Slli rd rs1 shamt)) h = listed_at 7 shift_immediate_bits (λ op. instr.Scalar (ShiftImmediate op 0 0 0)) shift_immediate_ops shift_immediate.Slli refl refl
listed (instr.Scalar (ShiftImmediate op rd rs1 shamt)) h = listed_at 7 shift_immediate_bits (λ op. instr.Scalar (ShiftImmediate op 0 0 0)) shift_immediate_ops op refl refl
listed (instr.Scalar (ShiftImmediateWord shift_immediate_word.Slliw rd rs1 shamt)) h = listed_at 8 shift_immediate_word_bits (λ op. instr.Scalar (ShiftImmediateWord op 0 0 0)) shift_immediate_word_ops shift_immediate_word.Slliw refl refl
listed (instr.Scalar (ShiftImmediateWord op rd rs1 shamt)) h = listed_at 8 shift_immediate_word_bits (λ op. instr.Scalar (ShiftImmediateWord op 0 0 0)) shift_immediate_word_ops op refl refl
listed (instr.Scalar (RegisterRegister register.Add rd rs1 rs2)) h = listed_at 9 register_op_bits (λ op. instr.Scalar (RegisterRegister op 0 0 0)) register_ops register.Add refl refl
listed (instr.Scalar (RegisterRegister op rd rs1 rs2)) h = listed_at 9 register_op_bits (λ op. instr.Scalar (RegisterRegister op 0 0 0)) register_ops op refl refl
listed (instr.Scalar (Fence rd rs1 ordering)) h = in_table 10 (row_of (instr.Scalar (Fence 0 0 0))) (inl refl)
listed (instr.Scalar (System system.Ecall)) h = listed_at 11 system_bits (λ op. instr.Scalar (System op)) system_ops system.Ecall refl refl
listed (instr.Scalar (System op)) h = listed_at 11 system_bits (λ op. instr.Scalar (System op)) system_ops op refl refl
listed (instr.Csr (Register csr.Csrrw rd rs1 number)) h = listed_at 12 csr_bits (λ op. instr.Csr (Register op 0 0 0)) csr_ops csr.Csrrw refl refl
listed (instr.Csr (Register op rd rs1 csr)) h = listed_at 12 csr_bits (λ op. instr.Csr (Register op 0 0 0)) csr_ops op refl refl
listed (instr.Csr (Immediate csr_immediate.Csrrwi rd imm csr)) h = listed_at 13 csr_immediate_bits (λ op. instr.Csr (Immediate op 0 0 0)) csr_immediate_ops csr_immediate.Csrrwi refl refl
listed (instr.Csr (Immediate op rd imm csr)) h = listed_at 13 csr_immediate_bits (λ op. instr.Csr (Immediate op 0 0 0)) csr_immediate_ops op refl refl
listed (instr.Vector (SetVli rd rs1 vtype)) h = in_table 14 (row_of (instr.Vector (SetVli 0 0 0))) (inl refl)
listed (instr.Vector (SetIvli rd avl vtype)) h = in_table 15 (row_of (instr.Vector (SetIvli 0 0 0))) (inl refl)
listed (instr.Vector (SetVl rd rs1 rs2)) h = in_table 16 (row_of (instr.Vector (SetVl 0 0 0))) (inl refl)
listed (instr.Vector (Arith arith vd vs2 vm)) h = listed_arith arith.0 arith.1 vd vs2 vm h
listed (instr.Vector (Carry carry vd vs2)) h = listed_carry carry.0 carry.1 vd vs2 h
listed (instr.Vector (Move source vd)) h = listed_move source vd
listed (instr.Vector (WholeMove count.One vd vs2)) h = listed_at 26 whole_move_bits (λ op. instr.Vector (WholeMove op 0 0)) counts count.One refl refl
listed (instr.Vector (WholeMove count vd vs2)) h = listed_at 26 whole_move_bits (λ op. instr.Vector (WholeMove op 0 0)) counts count refl refl
listed (instr.Vector (MaskLogic mask_logic.Vmandn vd vs1 vs2)) h = listed_at 27 mask_logic_bits (λ op. instr.Vector (MaskLogic op 0 0 0)) mask_logic_ops mask_logic.Vmandn refl refl
listed (instr.Vector (MaskLogic op vd vs1 vs2)) h = listed_at 27 mask_logic_bits (λ op. instr.Vector (MaskLogic op 0 0 0)) mask_logic_ops op refl refl
listed (instr.Vector (Compress vd vs1 vs2)) h = in_table 28 (row_of (instr.Vector (Compress 0 0 0))) (inl refl)
listed (instr.Vector (MaskToScalar mask_to_scalar.Vcpop rd vs2 vm)) h = listed_at 29 mask_to_scalar_bits (λ op. instr.Vector (MaskToScalar op 0 0 true)) mask_to_scalar_ops mask_to_scalar.Vcpop refl refl
listed (instr.Vector (MaskToScalar op rd vs2 vm)) h = listed_at 29 mask_to_scalar_bits (λ op. instr.Vector (MaskToScalar op 0 0 true)) mask_to_scalar_ops op refl refl
listed (instr.Vector (Extend extend.VzextVf8 vd vs2 vm)) h = listed_at 30 extend_bits (λ op. instr.Vector (Extend op 0 0 true)) extend_ops extend.VzextVf8 refl refl
listed (instr.Vector (Extend op vd vs2 vm)) h = listed_at 30 extend_bits (λ op. instr.Vector (Extend op 0 0 true)) extend_ops op refl refl
listed (instr.Vector (MaskUnary op vd vs2 vm)) h =
    listed_at 31 mask_unary_bits (λ op. instr.Vector (MaskUnary op 0 0 true)) mask_unary_ops op (known_mask_unary op) refl
listed (instr.Vector (ElementIndex vd vm)) h = in_table 32 (row_of (instr.Vector (ElementIndex 0 true))) (inl refl)
listed (instr.Vector (MoveToScalar rd vs2)) h = in_table 33 (row_of (instr.Vector (MoveToScalar 0 0))) (inl refl)
listed (instr.Vector (MoveToVector vd rs1)) h = in_table 34 (row_of (instr.Vector (MoveToVector 0 0))) (inl refl)
listed (instr.Access (UnitStride op width nf vd rs1 vm)) h =
    listed_at 35 unit_access_bits (λ op. instr.Access (UnitStride op.0 op.1 0 0 0 true)) unit_accesses (op, width) (known_unit op width) refl
listed (instr.Access (Strided direction width nf vd rs1 rs2 vm)) h =
    listed_at 36 strided_access_bits (λ op. instr.Access (Strided op.0 op.1 0 0 0 0 true)) strided_accesses (direction, width) (known_strided direction width) refl
listed (instr.Access (Indexed direction order width nf vd rs1 vs2 vm)) h =
    listed_at 37 indexed_access_bits (λ op. instr.Access (Indexed op.0.0 op.0.1 op.1 0 0 0 0 true)) indexed_accesses ((direction, order), width) (known_indexed direction order width) refl
listed (instr.Access (WholeLoad count width vd rs1)) h =
    listed_at 38 whole_load_bits (λ op. instr.Access (WholeLoad op.0 op.1 0 0)) whole_loads (count, width) (known_whole_load count width) refl
listed (instr.Access (WholeStore count.One vd rs1)) h = listed_at 39 whole_store_bits (λ op. instr.Access (WholeStore op 0 0)) counts count.One refl refl
listed (instr.Access (WholeStore count vd rs1)) h = listed_at 39 whole_store_bits (λ op. instr.Access (WholeStore op 0 0)) counts count refl refl
listed (instr.Access (MaskAccess direction.Load vd rs1)) h = listed_at 40 mask_memory_bits (λ op. instr.Access (MaskAccess op 0 0)) directions direction.Load refl refl
listed (instr.Access (MaskAccess direction vd rs1)) h = listed_at 40 mask_memory_bits (λ op. instr.Access (MaskAccess op 0 0)) directions direction refl refl

pub inside : (i : Instr) → Allowed i → bit_and (bits i) (fixed (parts i)) ≡ bits i
inside i ok = search (arith, nat_tests, all_in, bits, eqb-true, fixed, listed, table_inside)

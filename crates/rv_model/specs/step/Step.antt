-- The execution of one vector instruction ("V" Vector Extension 1.0), and one instruction of one machine (Unprivileged ISA 20191213).
-- docs/DECISIONS.md lists the choices that the standard leaves open. These definitions don't refer to other users.
use Rattle.std.specs.Prelude.{ℕ, ◌-◌, ◌%◌, ◌^◌, ◌==◌, ◌||◌, Bool, true, false, List, Option, Some, None, if◌then◌else◌, ◌&&◌, not}
use Rattle.std.specs.Option.{option_map_or}
use Rattle.rv_model.specs.declared.instructions.instruction.Instr.{Instr}
use Rattle.rv_model.specs.declared.instructions.instruction.Instr.TheVariants as instr
use Rattle.rv_model.specs.declared.instructions.access.AccessInstr.{AccessInstr}
use Rattle.rv_model.specs.declared.instructions.vector.VectorInstr.{VectorInstr}
use Rattle.rv_model.specs.declared.instructions.vector.VectorInstr.TheVariants.{SetVli, SetIvli, SetVl, Arith, Carry, Move, WholeMove, MaskLogic, Compress, MaskToScalar, Extend, MaskUnary, ElementIndex, MoveToScalar, MoveToVector}
use Rattle.rv_model.specs.declared.instructions.operations.MaskUnaryOp.TheVariants.{Scan, Viota}
use Rattle.rv_model.specs.declared.instructions.operations.VectorOp.{VectorOp}
use Rattle.rv_model.specs.declared.instructions.operations.VectorOp.TheVariants.{Binary, CarryOut, Compare, FixedPoint, NarrowShift, Clip, Widen, WideSource, MultiplyAdd, WidenMultiplyAdd, Reduce, WidenReduce, Permute}
use Rattle.rv_model.specs.declared.instructions.source.Source.{Source}
use Rattle.rv_model.specs.declared.step.step_end.Cause.TheVariants.{IllegalInstruction, LoadAccess, StoreAccess, FetchAccess}
use Rattle.rv_model.specs.declared.step.step_end.StepEnd.TheVariants.{Ran, Fault, Cut}
use Rattle.rv_model.specs.declared.step.vector_end.VEnd.{VEnd}
use Rattle.rv_model.specs.declared.step.vector_end.VEnd.TheVariants as vector_end
use Rattle.rv_model.specs.declared.vector.request.RequestedLength.{RequestedLength}
use Rattle.rv_model.specs.declared.vector.request.RequestedLength.TheVariants.{Elements, Maximum, Keep}
use Rattle.rv_model.specs.declared.vector.types.VType.{VType}
use Rattle.rv_model.specs.accesses.AccessRuns.{AccessRun, directed_run}
use Rattle.rv_model.specs.accesses.VectorAccess.{VectorAccess, access_of, vector_access}
use Rattle.rv_model.specs.step.MemoryStep.{access_end, after_access, filled_type, load_fills_masked_off}
use Rattle.rv_model.specs.step.Hart.{Cause, HartState, Scalar, Stepped, VState, ends_after, faults}
use Rattle.rv_model.specs.legality.Legality.{is_legal}
use Rattle.rv_model.specs.scalar.Registers.{advanced, read_register, with_register}
use Rattle.rv_model.specs.elements.Arithmetic.{binary_result, body_of, carry_out_result, carry_result, clip_result, clip_saturates_at, compare_result, extend_result, fills_masked_off, fills_tail, fixed_point_result, index_result, iota_result, mask_logic_result, multiply_add_result, narrow_shift_result, reduce_result, saturates_at, second_element, wide_source_result, widen_multiply_add_result, widen_reduce_result, widen_result, with_first_result, with_mask_results, with_results, group_element}
use Rattle.rv_model.specs.vector.Groups.{GroupType, group_type, sew_bits, register_of, part_type, wide_type, whole_type}
use Rattle.rv_model.specs.elements.Bodies.{is_arith_unmasked, operation_body}
use Rattle.rv_model.specs.elements.Elements.{some_active, Body}
use Rattle.rv_model.specs.elements.PermutationResults.{moved_to_scalar, permute_body, permute_result, with_packed, packed}
use Rattle.rv_model.specs.elements.Masks.{first_set, mask_scan_formula, mask_to_scalar_formula}
use Rattle.rv_model.specs.vector.TypeRules.{requested}
use Rattle.rv_model.specs.declared.instructions.operations.PermuteOp.{PermuteOp}
use Rattle.rv_model.specs.declared.instructions.operations.RegisterCount.{RegisterCount}
use Rattle.std.specs.Int.{from_le_bytes, w32}
use Rattle.rv_model.specs.declared.vector.control_register.ControlRegister.{ControlRegister}
use Rattle.rv_model.specs.declared.memory.Access.TheVariants.{Fetch}
use Rattle.rv_model.specs.declared.instructions.csr.CsrInstr.TheVariants.{Register, Immediate}
use Rattle.rv_model.specs.declared.instructions.operations.CsrOp.{CsrOp}
use Rattle.rv_model.specs.vector.ControlRegisters.{control_register, is_read_only}
use Rattle.rv_model.specs.instructions.Table.{scan, table}
use Rattle.rv_model.specs.memory.Memory.{Memory, bytes_at, can_access}
use Rattle.rv_model.specs.step.ScalarStep.{csr_executed, scalar_step}
use Rattle.rv_model.specs.vector.Control.{is_write, csr_form}
pub use Rattle.rv_model.specs.step.Hart.{HartState, Stepped, ends, faults, retires, gives}

-- Slides and gathers. They fill the tail like any instruction, even if a slide's offset is past the body.
abbrev pub permuted : VType → PermuteOp → Source → ℕ → ℕ → Body → HartState → List ℕ
permuted t op source vd vs2 body s =
    with_results (group_type t) vd (permute_body op source s.scalar body) (fills_masked_off s.policy t body)
    (fills_tail s.policy t body) (permute_result (group_type t) op body.end vs2 source s.vector.file s.scalar) s.vector.file

-- vcompress; the bits of vs1 select the elements that it packs
abbrev pub compressed : VType → ℕ → ℕ → ℕ → Body → HartState → List ℕ
compressed t vd vs1 vs2 body s =
    let file = s.vector.file in
    with_packed (group_type t) vd body.end (fills_tail s.policy t body)
    (packed (register_of file vs1) (group_element (group_type t) file vs2) body.end) file

-- vmv1r.v and the like, which have no tail (section 16.6)
abbrev pub whole_moved : VType → RegisterCount → ℕ → ℕ → Body → HartState → List ℕ
whole_moved t count vd vs2 body s =
    let g = whole_type t count in
    with_results g vd body false false (group_element g s.vector.file vs2) s.vector.file

-- whether an instruction belongs to the vector extension; accesses of control registers don't
abbrev pub is_vector : Instr → Bool
is_vector (instr.Vector i) = true
is_vector (instr.Access i) = true
is_vector _ = false

-- the end of a vector instruction and the state after it, in which the program counter still points to the instruction
pub record VectorStepped : Type 0 where
  pub state : HartState
  pub end : VEnd

abbrev pub vector_ends : VEnd → HartState → VectorStepped
vector_ends end s = record { state = s; end = end }

-- a completed instruction with these registers and this vector state; it resets vstart to 0
abbrev pub leaves : Scalar → VState → HartState → VectorStepped
leaves x v s = vector_ends vector_end.Done (record s { scalar = x; vector = record v { vstart = 0 } })

-- ---- the vector length and type

-- the length requested by the registers of a vset instruction: the value of rs1, unless rs1 is x0
abbrev pub requested_length : ℕ → ℕ → Scalar → RequestedLength
requested_length rd rs1 s = if rs1 == 0 then (if rd == 0 then Keep else Maximum) else Elements (read_register s rs1)

-- a vset instruction, which sets the requested length and type and writes the length to a register
abbrev pub vset_step : ℕ → ℕ → RequestedLength → HartState → VectorStepped
vset_step rd vtype length s =
    let new = requested s.vector.conf (record { vtype = vtype; length = length }) in
    leaves (with_register rd new.vl s.scalar) (record s.vector { conf = new }) s

-- ---- results

-- an instruction that writes a number to a scalar register
abbrev pub writes_scalar : ℕ → ℕ → HartState → VectorStepped
writes_scalar rd number s = leaves (with_register rd number s.scalar) s.vector s

-- an instruction that replaces the vector registers
abbrev pub writes_registers : List ℕ → HartState → VectorStepped
writes_registers file s = leaves s.scalar (record s.vector { file = file }) s

-- an instruction that writes its results to a group of elements; the results depend on the registers before it
abbrev pub element_wise : VType → GroupType → ℕ → Body → (List ℕ → Scalar → ℕ → ℕ) → HartState → VectorStepped
element_wise t g vd body result s =
    let numbers = result s.vector.file s.scalar in
    writes_registers (with_results g vd body (fills_masked_off s.policy t body) (fills_tail s.policy t body) numbers s.vector.file) s

-- the same for an instruction that sets vxsat if one of its results isn't exact; it never clears vxsat
abbrev pub saturating : VType → GroupType → ℕ → Body → (List ℕ → Scalar → ℕ → ℕ) → (List ℕ → Scalar → ℕ → Bool) → HartState → VectorStepped
saturating t g vd body result saturates s =
    let v = (element_wise t g vd body result s).state.vector in
    let saturated = some_active body (saturates s.vector.file s.scalar) in
    leaves s.scalar (record v { vxsat = v.vxsat || saturated }) s

-- an instruction that writes its results to a mask; whatever the policy is, no other bit of the mask changes
abbrev pub mask_wise : ℕ → Body → (List ℕ → Scalar → ℕ → Bool) → HartState → VectorStepped
mask_wise vd body bit s =
    writes_registers (with_mask_results vd body (bit s.vector.file s.scalar) s.vector.file) s

-- an instruction that writes one result to element 0 of a register, whatever LMUL is; the tail starts at element 1, and no element is
-- masked off
abbrev pub writes_first : VType → GroupType → ℕ → Body → (List ℕ → Scalar → ℕ) → HartState → VectorStepped
writes_first t g vd body result s =
    writes_registers (with_first_result g.width vd body (fills_tail s.policy t body) (result s.vector.file s.scalar) s.vector.file) s

-- ---- each instruction

-- An operation with a row of its own in the manual's table, applied to a body; g is the type of its groups, w that of groups of twice the
-- width. A reduction combines the active elements.
abbrev pub arith_over : VType → GroupType → GroupType → VectorOp → Source → ℕ → ℕ → Bool → Body → HartState → VectorStepped
arith_over t g w (Binary op) source vd vs2 vm body s = element_wise t g vd body (binary_result g op vs2 source) s
arith_over t g w (MultiplyAdd op) source vd vs2 vm body s = element_wise t g vd body (multiply_add_result g op vd vs2 source) s
arith_over t g w (Compare op) source vd vs2 vm body s = mask_wise vd body (compare_result g op vs2 source) s
arith_over t g w (CarryOut op) source vd vs2 vm body s = mask_wise vd body (carry_out_result g op vm vs2 source) s
arith_over t g w (Widen op) source vd vs2 vm body s = element_wise t w vd body (widen_result g w op vs2 source) s
arith_over t g w (WideSource op) source vd vs2 vm body s = element_wise t w vd body (wide_source_result g w op vs2 source) s
arith_over t g w (WidenMultiplyAdd op) source vd vs2 vm body s = element_wise t w vd body (widen_multiply_add_result g w op vd vs2 source) s
arith_over t g w (NarrowShift op) source vd vs2 vm body s = element_wise t g vd body (narrow_shift_result g w op vs2 source) s
arith_over t g w (FixedPoint op) source vd vs2 vm body s =
    saturating t g vd body (fixed_point_result g s.vector.vxrm op vs2 source) (saturates_at g s.vector.vxrm op vs2 source) s
arith_over t g w (Clip op) source vd vs2 vm body s =
    saturating t g vd body (clip_result g w s.vector.vxrm op vs2 source) (clip_saturates_at g w s.vector.vxrm op vs2 source) s
arith_over t g w (Reduce op) source vd vs2 vm body s = writes_first t g vd body (reduce_result g op body vs2 source) s
arith_over t g w (WidenReduce op) source vd vs2 vm body s =
    writes_first t w vd body (widen_reduce_result g w op body vs2 source) s
arith_over t g w (Permute op) source vd vs2 vm body s = writes_registers (permuted t op source vd vs2 body s) s

-- the same, applied to the operation's own body
abbrev pub arith_step : VType → GroupType → GroupType → VectorOp → Source → ℕ → ℕ → Bool → HartState → VectorStepped
arith_step t g w op source vd vs2 vm s = arith_over t g w op source vd vs2 vm (body_of (is_arith_unmasked op vm) s.vector) s

-- A legal instruction that needs a vector type and neither loads nor stores, applied to a body. The vset instructions never reach the last
-- equation.
abbrev pub typed_over : VectorInstr → Body → VType → HartState → VectorStepped
typed_over (Arith arith vd vs2 vm) body t s = arith_over t (group_type t) (wide_type t) arith.0 arith.1 vd vs2 vm body s
typed_over (Carry carry vd vs2) body t s = element_wise t (group_type t) vd body (carry_result (group_type t) carry.0 vs2 carry.1) s
typed_over (Move source vd) body t s = element_wise t (group_type t) vd body (second_element (group_type t) false source) s
typed_over (Extend op vd vs2 vm) body t s =
    element_wise t (group_type t) vd body (λ file x. extend_result (part_type op t) (group_type t) op vs2 file) s
typed_over (MaskLogic op vd vs1 vs2) body t s = mask_wise vd body (λ file x. mask_logic_result op vs1 vs2 file) s
typed_over (MaskToScalar op rd vs2 vm) body t s =
    writes_scalar rd (mask_to_scalar_formula op body (register_of s.vector.file vs2)) s
typed_over (MaskUnary (Scan op) vd vs2 vm) body t s =
    mask_wise vd body (λ file x. mask_scan_formula op (first_set body (register_of file vs2))) s
typed_over (MaskUnary Viota vd vs2 vm) body t s =
    element_wise t (group_type t) vd body (λ file x. iota_result (group_type t) body vs2 file) s
typed_over (ElementIndex vd vm) body t s = element_wise t (group_type t) vd body (λ file x. index_result (group_type t)) s
typed_over (Compress vd vs1 vs2) body t s = writes_registers (compressed t vd vs1 vs2 body s) s
typed_over (MoveToScalar rd vs2) body t s = writes_scalar rd (moved_to_scalar t vs2 s.vector.file) s
typed_over (MoveToVector vd rs1) body t s = writes_first t (group_type t) vd body (λ file x. read_register x rs1 % 2 ^ sew_bits t.sew) s
typed_over (WholeMove count vd vs2) body t s = writes_registers (whole_moved t count vd vs2 body s) s
typed_over _ body t s = vector_ends vector_end.Illegal s

-- the same, applied to the instruction's own body
abbrev pub typed_step : VectorInstr → VType → HartState → VectorStepped
typed_step i t s = typed_over i (operation_body i t s.vector) t s

-- an instruction that needs a vector type; legality excludes the case without one
abbrev pub typed : Option VType → (VType → HartState → VectorStepped) → HartState → VectorStepped
typed None step s = vector_ends vector_end.Illegal s
typed (Some t) step s = step t s

-- a legal vector instruction that neither loads nor stores
unfoldable pub operation_step : VectorInstr → HartState → VectorStepped
operation_step (SetVli rd rs1 vtype) s = vset_step rd vtype (requested_length rd rs1 s.scalar) s
operation_step (SetIvli rd avl vtype) s = vset_step rd vtype (Elements avl) s
operation_step (SetVl rd rs1 rs2) s = vset_step rd (read_register s.scalar rs2) (requested_length rd rs1 s.scalar) s
operation_step i s = typed s.vector.conf.vtype (typed_step i) s

-- the run of a load or store, limited to `limit` indices
abbrev pub accessed : ℕ → VectorAccess → HartState → AccessRun
accessed limit a s = directed_run a.direction limit (load_fills_masked_off a s) a s.vector s.memory

-- a load or store, by its access; legality excludes None, an access that needs a vector type when there is none
abbrev pub access_step : ℕ → AccessInstr → Option VectorAccess → HartState → VectorStepped
access_step limit i None s = vector_ends vector_end.Illegal s
access_step limit i (Some a) s =
    let run = accessed limit a s in
    vector_ends (access_end a.direction run.end) (after_access (filled_type i a s) a run s)

-- a legal vector instruction, limited to the remaining ticks; legality excludes all other instructions
unfoldable pub performed : ℕ → Instr → HartState → VectorStepped
performed limit (instr.Vector i) s = operation_step i s
performed limit (instr.Access i) s = access_step limit i (access_of i s.vector s.scalar) s
performed limit _ s = vector_ends vector_end.Illegal s

-- a vector instruction, limited to the remaining ticks; an illegal one changes nothing
unfoldable pub vector_executed : ℕ → Instr → HartState → VectorStepped
vector_executed limit i s =
    if is_legal i s.vector.conf.vtype s.vector.vstart then performed limit i s else vector_ends vector_end.Illegal s

-- the cause of an access fault
abbrev pub access_cause : Bool → Cause
access_cause store = if store then StoreAccess else LoadAccess

-- the ticks of a vector instruction: one, or for a load or store one for each index that it reaches
abbrev pub vector_ticks : ℕ → Instr → HartState → ℕ
vector_ticks limit i s =
    option_map_or (λ a. (accessed limit a s).reached - s.vector.vstart) (vector_access i s.vector s.scalar) 1

-- the step of a vector instruction, from its ticks, its end and its word; an illegal instruction takes one tick
abbrev pub after_vector : ℕ → VEnd → ℕ → HartState → Stepped
after_vector ticks vector_end.Done word s = ends_after ticks Ran (record s { scalar = advanced s.scalar })
after_vector ticks vector_end.Illegal word s = faults IllegalInstruction word s
after_vector ticks (vector_end.Fault store addr) word s = ends_after ticks (Fault (access_cause store) s.scalar.pc addr) s
after_vector ticks (vector_end.Cut index) word s = ends_after ticks Cut s

abbrev pub vector_step : ℕ → Instr → ℕ → HartState → Stepped
vector_step limit i word s =
    let done = vector_executed limit i s in
    after_vector (vector_ticks limit i s) done.end word done.state

-- whether a vector instruction changes the vector state: a legal one does, even if it then faults or is cut
abbrev pub is_legal_end : VEnd → Bool
is_legal_end vector_end.Illegal = false
is_legal_end _ = true

-- the word at an address, least significant byte first
abbrev pub word_at : Memory → ℕ → ℕ
word_at m addr = from_le_bytes w32 (bytes_at m addr 4)

-- an instruction, by its word and the remaining ticks
unfoldable pub executed : ℕ → Option Instr → ℕ → HartState → Stepped
executed limit None word s = faults IllegalInstruction word s
executed limit (Some (instr.Scalar i)) word s = scalar_step i s
executed limit (Some (instr.Csr i)) word s = csr_executed i word s
executed limit (Some i) word s = vector_step limit i word s

-- fetch the word at the program counter, and execute its instruction
unfoldable pub step : ℕ → HartState → Stepped
step limit s =
    let word = word_at s.memory s.scalar.pc in
    if can_access Fetch s.memory s.scalar.pc 4 then executed limit (scan table word) word s
    else faults FetchAccess s.scalar.pc s

-- the instruction at an address; None if it may not be fetched or the word isn't an instruction
abbrev pub fetched : Memory → ℕ → Option Instr
fetched m pc = if can_access Fetch m pc 4 then scan table (word_at m pc) else None

-- ---- use of the vector unit (Privileged Architecture 20211203, section 3.1.6.6, the field VS)

-- whether an access of a control register touches the vector unit: a legal one does
abbrev pub touches_control : Option ControlRegister → CsrOp → ℕ → Bool
touches_control register op source = option_map_or (λ r. not (is_write op source && is_read_only r)) register false

-- whether an instruction touches the vector unit; a word that isn't an instruction doesn't
abbrev pub touches : Option Instr → Bool
touches None = false
touches (Some (instr.Csr (Register op rd rs1 csr))) = touches_control (control_register csr) op rs1
touches (Some (instr.Csr (Immediate op rd imm csr))) = touches_control (control_register csr) (csr_form op) imm
touches (Some i) = is_vector i

-- whether an instruction changes the vector state: it writes a vector control register, or it is a legal vector instruction
unfoldable pub dirties : ℕ → Option Instr → HartState → Bool
dirties limit None s = false
dirties limit (Some (instr.Csr (Register op rd rs1 csr))) s = touches_control (control_register csr) op rs1 && is_write op rs1
dirties limit (Some (instr.Csr (Immediate op rd imm csr))) s = touches_control (control_register csr) (csr_form op) imm && is_write (csr_form op) imm
dirties limit (Some i) s = is_vector i && is_legal_end (vector_executed limit i s).end

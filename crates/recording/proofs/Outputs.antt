-- A step with bytes in the output buffer, compared with the same step with an empty buffer.
use Rattle.std.proofs.Common.{◌≡◌, ◌≤◌, ◌-◌, ◌==◌, ◌||◌, refl, ℕ, Bool, true, false, List, [], ◌++◌, Option, Some, None, cond, length, min, ap, ◌∙◌, sym, append-nil, arith, ◌%◌}
use Rattle.std.specs.Prelude.{not, ◌&&◌}
use Rattle.std.specs.Int.{byte_len, w64}
use Rattle.std.proofs.lemmas.Bool.Decides.{nat_tests}
use Rattle.rv_model.specs.declared.instructions.access.AccessInstr.{AccessInstr}
use Rattle.rv_model.specs.declared.instructions.csr.CsrInstr.{CsrInstr}
use Rattle.rv_model.specs.declared.instructions.csr.CsrInstr.TheVariants.{Register, Immediate}
use Rattle.rv_model.specs.declared.instructions.instruction.Instr.{Instr}
use Rattle.rv_model.specs.declared.instructions.instruction.Instr.TheVariants as instr
use Rattle.rv_model.specs.declared.instructions.operations.CsrOp.{CsrOp}
use Rattle.rv_model.specs.declared.instructions.operations.MaskUnaryOp.TheVariants.{Scan, Viota}
use Rattle.rv_model.specs.declared.instructions.operations.SystemOp.TheVariants as system
use Rattle.rv_model.specs.declared.instructions.operations.VectorOp.{VectorOp}
use Rattle.rv_model.specs.declared.instructions.operations.VectorOp.TheVariants.{Binary}
use Rattle.rv_model.specs.declared.instructions.scalar.ScalarInstr.{ScalarInstr}
use Rattle.rv_model.specs.declared.instructions.scalar.ScalarInstr.TheVariants.{Jump, JumpRegister, Branch, Load, Store, System}
use Rattle.rv_model.specs.declared.instructions.source.Source.{Source}
use Rattle.rv_model.specs.declared.instructions.vector.VectorInstr.{VectorInstr}
use Rattle.rv_model.specs.declared.instructions.vector.VectorInstr.TheVariants.{SetVli, SetIvli, SetVl, Arith, MaskUnary}
use Rattle.rv_model.specs.declared.memory.Access.TheVariants as access
use Rattle.rv_model.specs.declared.scalar.Scalar.{Scalar}
use Rattle.rv_model.specs.declared.step.step_end.StepEnd.TheVariants.{Exit, OutputFull}
use Rattle.rv_model.specs.declared.step.step_end.Cause.TheVariants.{FetchAccess, IllegalInstruction}
use Rattle.rv_model.specs.declared.step.vector_end.VEnd.{VEnd}
use Rattle.rv_model.specs.declared.step.vector_end.VEnd.TheVariants.{Done}
use Rattle.rv_model.specs.declared.vector.control_register.ControlRegister.{ControlRegister}
use Rattle.rv_model.specs.declared.vector.types.VType.{VType}
use Rattle.rv_model.specs.accesses.VectorAccess.{VectorAccess, access_of}
use Rattle.rv_model.specs.instructions.Immediates.{b_immediate, i_immediate, j_immediate, s_immediate}
use Rattle.rv_model.specs.instructions.Table.{scan, table}
use Rattle.rv_model.specs.legality.Legality.{is_legal}
use Rattle.rv_model.specs.memory.Memory.{can_access}
use Rattle.rv_model.specs.scalar.Arithmetic.{sum}
use Rattle.rv_model.specs.scalar.ControlTransfer.{is_taken, register_target}
use Rattle.rv_model.specs.scalar.LoadsAndStores.{load_width, store_width}
use Rattle.rv_model.specs.scalar.Registers.{read_register, with_register}
use Rattle.rv_model.specs.step.Hart.{HartState, Stepped, ends, faults, gives}
use Rattle.rv_model.specs.step.ScalarStep.{csr_executed, csr_step, environment_call, jumps, scalar_step}
use Rattle.rv_model.specs.step.Step.{executed, step, word_at, VectorStepped, access_step, after_vector, arith_step, operation_step, performed, typed, typed_step, vector_executed, vector_step, vector_ticks}
use Rattle.rv_model.specs.step.WriteCall.{call_fails, puts_out, write_call, write_count}
use Rattle.rv_model.specs.vector.Groups.{GroupType, group_type, wide_type}
use Rattle.rv_model.specs.vector.Control.{csr_form, is_write}
use Rattle.rv_model.specs.vector.ControlRegisters.{control_register, is_read_only}
use Rattle.recording.specs.Machines.{taken}

-- a state with these bytes in the output buffer instead of its own
abbrev pub with_output : List ℕ → HartState → HartState
with_output o s = record s { output = o }

-- a step's result with these bytes before its output
abbrev pub joined : List ℕ → Stepped → Stepped
joined o one = record one { state = with_output (o ++ one.state.output) one.state }

-- a property of both branches holds for the branch that a test selects
either_by : {A : Type 0} (f : A → A) (b : Bool) (x y x' y' : A) → x' ≡ f x → y' ≡ f y → cond b x' y' ≡ f (cond b x y)
either_by f true x y x' y' h k = h
either_by f false x y x' y' h k = k

-- ---- vector instructions neither read nor change the output buffer

abbrev vector_with : List ℕ → VectorStepped → VectorStepped
vector_with o done = record done { state = with_output o done.state }

abbrev step_with : List ℕ → Stepped → Stepped
step_with o one = record one { state = with_output o one.state }

module _ (o : List ℕ) (s : HartState) where
  arith_keeps : (t : VType) (g w : GroupType) (op : VectorOp) (source : Source) (vd vs2 : ℕ) (vm : Bool)
      → arith_step t g w op source vd vs2 vm (with_output o s) ≡ vector_with o (arith_step t g w op source vd vs2 vm s)
  arith_keeps t g w (Binary op) source vd vs2 vm = refl
  arith_keeps t g w _ source vd vs2 vm = refl

  typed_keeps : (i : VectorInstr) (t : VType) → typed_step i t (with_output o s) ≡ vector_with o (typed_step i t s)
  typed_keeps (Arith arith vd vs2 vm) t = arith_keeps t (group_type t) (wide_type t) arith.0 arith.1 vd vs2 vm
  typed_keeps (MaskUnary (Scan op) vd vs2 vm) t = refl
  typed_keeps (MaskUnary Viota vd vs2 vm) t = refl
  typed_keeps _ t = refl

  by_type : (i : VectorInstr) (c : Option VType) → typed c (typed_step i) (with_output o s) ≡ vector_with o (typed c (typed_step i) s)
  by_type i None = refl
  by_type i (Some t) = typed_keeps i t

  operation_keeps : (i : VectorInstr) → operation_step i (with_output o s) ≡ vector_with o (operation_step i s)
  unfolding operation_step
  operation_keeps (SetVli rd rs1 vtype) = refl
  operation_keeps (SetIvli rd avl vtype) = refl
  operation_keeps (SetVl rd rs1 rs2) = refl
  operation_keeps i = by_type i s.vector.conf.vtype

  access_keeps : (limit : ℕ) (i : AccessInstr) (a : Option VectorAccess) → access_step limit i a (with_output o s) ≡ vector_with o (access_step limit i a s)
  access_keeps limit i None = refl
  access_keeps limit i (Some a) = refl

  performed_keeps : (limit : ℕ) (i : Instr) → performed limit i (with_output o s) ≡ vector_with o (performed limit i s)
  unfolding performed
  performed_keeps limit (instr.Vector i) = operation_keeps i
  performed_keeps limit (instr.Access i) = access_keeps limit i (access_of i s.vector s.scalar)
  performed_keeps limit _ = refl

after_keeps : (o : List ℕ) (ticks word : ℕ) (end : VEnd) (s : HartState) → after_vector ticks end word (with_output o s) ≡ step_with o (after_vector ticks end word s)
after_keeps o ticks word Done s = refl
after_keeps o ticks word _ s = refl

vector_keeps : (o : List ℕ) (limit : ℕ) (i : Instr) (word : ℕ) (s : HartState) → vector_step limit i word (with_output o s) ≡ step_with o (vector_step limit i word s)
unfolding vector_executed
vector_keeps o limit i word s =
    let done : VectorStepped = vector_executed limit i s in
    ap (λ (d : VectorStepped). after_vector (vector_ticks limit i s) d.end word d.state)
    (either_by (vector_with o) (is_legal i s.vector.conf.vtype s.vector.vstart) _ _ _ _ (performed_keeps o s limit i) refl)
    ∙ after_keeps o (vector_ticks limit i s) word done.end done.state

-- ---- scalar instructions except calls don't either

module _ (o : List ℕ) (s : HartState) where
  jumps_keep : (target : ℕ) (x : Scalar) → jumps target x (with_output o s) ≡ step_with o (jumps target x s)
  jumps_keep target x = either_by (step_with o) (target % 4 == 0) _ _ _ _ refl refl

  csr_keeps : (register : Option ControlRegister) (op : CsrOp) (rd source operand word : ℕ)
      → csr_step register op rd source operand word (with_output o s) ≡ step_with o (csr_step register op rd source operand word s)
  csr_keeps None op rd source operand word = refl
  csr_keeps (Some r) op rd source operand word =
      either_by (step_with o) (is_write op source && is_read_only r) _ _ _ _ refl (either_by (step_with o) (is_write op source) _ _ _ _ refl refl)

  control_keeps : (i : CsrInstr) (word : ℕ) → csr_executed i word (with_output o s) ≡ step_with o (csr_executed i word s)
  control_keeps (Register op rd rs1 csr) word = csr_keeps (control_register csr) op rd rs1 (read_register s.scalar rs1) word
  control_keeps (Immediate op rd imm csr) word = csr_keeps (control_register csr) (csr_form op) rd imm imm word

-- a function that leaves every output buffer unchanged commutes with joining
still : (o : List ℕ) (s : HartState) (f : HartState → Stepped) → ((l : List ℕ) → f (with_output l s) ≡ step_with l (f s)) → f (with_output o s) ≡ joined o (f (taken s))
still o s f keeps = keeps o ∙ ap (λ (l : List ℕ). step_with l (f s)) (sym (append-nil o)) ∙ ap (λ (one : Stepped). joined o one) (sym (keeps []))

-- ---- calls

has_room : (n : ℕ) → n ≤ 768 → (1024 - n == 0) ≡ false
has_room n few = grind (arith, nat_tests)

same_count : (asked n : ℕ) → n ≤ 768 → min asked (min (1024 - n) 256) ≡ min asked (min 1024 256)
same_count asked n few = omega (arith, few)

module _ (o : List ℕ) (s : HartState) (few : length o ≤ 768) where
  put_joins : (addr count : ℕ) → puts_out addr count (with_output o s) ≡ joined o (puts_out addr count (taken s))
  put_joins addr count = either_by (joined o) (can_access access.Load s.memory addr count) _ _ _ _ refl (still o s (call_fails 14) (λ l. refl))

  write_joins : write_call (with_output o s) ≡ joined o (write_call (taken s))
  unfolding write_call
  write_joins =
      let asked : ℕ = read_register s.scalar 12 in
      let addr : ℕ = read_register s.scalar 11 in
      either_by (joined o) (not (read_register s.scalar 10 == 1)) _ _ _ _ (still o s (call_fails 9) (λ l. refl))
      (either_by (joined o) (asked == 0) _ _ _ _ (still o s (gives 10 0) (λ l. refl))
      (ap (λ (b : Bool). cond b (ends OutputFull (with_output o s)) (puts_out addr (write_count asked o) (with_output o s))) (has_room (length o) few)
      ∙ ap (λ (n : ℕ). puts_out addr n (with_output o s)) (same_count asked (length o) few)
      ∙ put_joins addr (min asked 256)))

  call_joins : environment_call (with_output o s) ≡ joined o (environment_call (taken s))
  unfolding environment_call
  call_joins =
      let number : ℕ = read_register s.scalar 17 in
      either_by (joined o) (number == 93 || number == 94) _ _ _ _ (ap (λ (l : List ℕ). ends (Exit (read_register s.scalar 10 % 256)) (with_output l s)) (sym (append-nil o)))
      (either_by (joined o) (number == 64) _ _ _ _ write_joins (still o s (call_fails 38) (λ l. refl)))

  scalar_joins : (i : ScalarInstr) → scalar_step i (with_output o s) ≡ joined o (scalar_step i (taken s))
  scalar_joins (Jump rd imm) = still o s (scalar_step (Jump rd imm)) (λ l. jumps_keep l s (sum w64 s.scalar.pc (j_immediate imm)) (with_register rd (sum w64 s.scalar.pc 4) s.scalar))
  scalar_joins (JumpRegister rd rs1 imm) =
      still o s (scalar_step (JumpRegister rd rs1 imm)) (λ l. jumps_keep l s (register_target (read_register s.scalar rs1) imm) (with_register rd (sum w64 s.scalar.pc 4) s.scalar))
  scalar_joins (Branch op rs1 rs2 imm) =
      still o s (scalar_step (Branch op rs1 rs2 imm))
      (λ l. either_by (step_with l) (is_taken op (read_register s.scalar rs1) (read_register s.scalar rs2)) _ _ _ _ (jumps_keep l s (sum w64 s.scalar.pc (b_immediate imm)) s.scalar) refl)
  scalar_joins (Load op rd rs1 imm) =
      still o s (scalar_step (Load op rd rs1 imm))
      (λ l. either_by (step_with l) (can_access access.Load s.memory (sum w64 (read_register s.scalar rs1) (i_immediate imm)) (byte_len (load_width op))) _ _ _ _ refl refl)
  scalar_joins (Store op rs1 rs2 imm) =
      still o s (scalar_step (Store op rs1 rs2 imm))
      (λ l. either_by (step_with l) (can_access access.Store s.memory (sum w64 (read_register s.scalar rs1) (s_immediate imm)) (byte_len (store_width op))) _ _ _ _ refl refl)
  scalar_joins (System system.Ecall) = call_joins
  scalar_joins i = still o s (scalar_step i) (λ l. refl)

  executed_joins : (i : Option Instr) (word : ℕ) → executed 256 i word (with_output o s) ≡ joined o (executed 256 i word (taken s))
  unfolding executed
  executed_joins None word = still o s (faults IllegalInstruction word) (λ l. refl)
  executed_joins (Some (instr.Scalar i)) word = scalar_joins i
  executed_joins (Some (instr.Csr i)) word = still o s (csr_executed i word) (λ l. control_keeps l s i word)
  executed_joins (Some i) word = still o s (vector_step 256 i word) (λ l. vector_keeps l 256 i word s)

  pub step_joins : step 256 (with_output o s) ≡ joined o (step 256 (taken s))
  unfolding step
  step_joins =
      either_by (joined o) (can_access access.Fetch s.memory s.scalar.pc 4) _ _ _ _
      (executed_joins (scan table (word_at s.memory s.scalar.pc)) (word_at s.memory s.scalar.pc))
      (still o s (faults FetchAccess s.scalar.pc) (λ l. refl))

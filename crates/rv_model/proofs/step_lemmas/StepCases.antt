-- The ends of a step without a vector instruction: a law that holds for each of them holds for all such steps.
use Rattle.std.proofs.Common.{◌≡◌, ◌-◌, ◌⊎◌, inl, inr, ℕ, Bool, true, false, ◌==◌, cond, List, ◌++◌, Option, Some, None, refl, sym, ◌∙◌, ap, subst, arith}
use Rattle.std.specs.Prelude.{slice_set}
use Rattle.std.specs.Int.{w64}
use Rattle.std.proofs.lemmas.Bool.Decides.{nat_tests}
use Rattle.std.proofs.lemmas.List.{get_or-set_other}
use Rattle.rv_model.specs.declared.instructions.instruction.Instr.{Instr}
use Rattle.rv_model.specs.declared.instructions.instruction.Instr.TheVariants as instr
use Rattle.rv_model.specs.declared.instructions.scalar.ScalarInstr.{ScalarInstr}
use Rattle.rv_model.specs.declared.instructions.scalar.ScalarInstr.TheVariants.{Upper, Jump, JumpRegister, Branch, Load, Store, RegisterImmediate, ShiftImmediate, ShiftImmediateWord, RegisterRegister, Fence, System}
use Rattle.rv_model.specs.declared.instructions.csr.CsrInstr.{CsrInstr}
use Rattle.rv_model.specs.declared.instructions.operations.CsrOp.{CsrOp}
use Rattle.rv_model.specs.declared.instructions.operations.SystemOp.TheVariants as system
use Rattle.rv_model.specs.declared.memory.Access.TheVariants as access
use Rattle.rv_model.specs.declared.scalar.Scalar.{Scalar}
use Rattle.rv_model.specs.declared.step.step_end.Cause.{Cause}
use Rattle.rv_model.specs.declared.step.step_end.Cause.TheVariants.{FetchAccess, IllegalInstruction}
use Rattle.rv_model.specs.declared.step.step_end.StepEnd.TheVariants.{Ran, Exit, Ebreak, OutputFull}
use Rattle.rv_model.specs.declared.vector.control_register.ControlRegister.{ControlRegister}
use Rattle.rv_model.specs.declared.instructions.operations.MaskUnaryOp.{MaskUnaryOp}
use Rattle.rv_model.specs.declared.instructions.operations.VectorOp.{VectorOp}
use Rattle.rv_model.specs.declared.instructions.source.Source.{Source}
use Rattle.rv_model.specs.declared.instructions.vector.VectorInstr.{VectorInstr}
use Rattle.rv_model.specs.declared.instructions.vector.VectorInstr.TheVariants.{MaskUnary}
use Rattle.rv_model.specs.declared.step.vector_end.VEnd.TheVariants.{Illegal}
use Rattle.rv_model.specs.declared.vector.request.RequestedLength.{RequestedLength}
use Rattle.rv_model.specs.declared.vector.types.VType.{VType}
use Rattle.rv_model.specs.vector.Groups.{GroupType}
use Rattle.rv_model.specs.instructions.Table.{scan, table}
use Rattle.rv_model.specs.memory.Memory.{bytes_at, can_access, put_bytes}
use Rattle.rv_model.specs.scalar.Arithmetic.{sum}
use Rattle.rv_model.specs.scalar.ControlTransfer.{is_taken}
use Rattle.rv_model.specs.scalar.Registers.{advanced, read_register, with_register}
use Rattle.rv_model.specs.step.Hart.{HartState, Stepped, ends, faults, gives, retires}
use Rattle.rv_model.specs.step.ScalarStep.{csr_executed, csr_step, environment_call, jumps, scalar_step}
use Rattle.rv_model.specs.step.Step.{executed, fetched, step, touches, word_at, VectorStepped, arith_step, leaves, operation_step, typed, typed_step, vector_ends, vector_step, vset_step}
use Rattle.rv_model.specs.step.Targets.{Wrote, scalar_target, target_at, target_of, target_of_scalar, target_of_vector}
use Rattle.rv_model.specs.step.Ticks.{is_scalar}
use Rattle.rv_model.specs.step.WriteCall.{write_call, write_count}
use Rattle.rv_model.specs.vector.Control.{with_control}
use Rattle.rv_model.proofs.Choices.{of_bool, of_either, of_test}

-- x0 has the same value
abbrev pub SameFirst : Scalar → Scalar → Type 0
SameFirst old new = read_register new 0 ≡ read_register old 0

pub first-with_register : (rd value : ℕ) (s : Scalar) → SameFirst s (with_register rd value s)
first-with_register rd value s = search (arith, nat_tests, get_or-set_other, of_test)

-- a register has a new value
pub wrote : (rd value pc : ℕ) (x : Scalar) → Wrote rd x (record (with_register rd value x) { pc = pc })
wrote rd value pc x = record { value = value; pc = pc; is = refl }

-- the same with an unchanged program counter
pub wrote_alone : (rd value : ℕ) (x : Scalar) → Wrote rd x (with_register rd value x)
wrote_alone rd value x = record {
  value = value;
  pc = x.pc;
  is = of_bool (rd == 0) (λ b. cond b x (record x { x = slice_set x.x rd value }) ≡ record (cond b x (record x { x = slice_set x.x rd value })) { pc = x.pc })
      (λ e. refl) (λ e. refl);
}

pub wrote-first : (rd : ℕ) (old new : Scalar) → Wrote rd old new → SameFirst old new
wrote-first rd old new w = subst (SameFirst old) (sym w.is) (first-with_register rd w.value old)

-- rd is the target of the instruction
pub record Cases (s : HartState) (rd : ℕ) (P : Stepped → Type 0) : Type 0 where
  pub fault : (cause : Cause) (value : ℕ) → P (faults cause value s)
  pub runs : (scalar : Scalar) → Wrote rd s.scalar scalar → P (ends Ran (record s { scalar = scalar }))
  pub stores : (addr : ℕ) (bytes : List ℕ) → P (retires s.scalar (record s { memory = put_bytes s.memory addr bytes }))
  pub controls : (register : ControlRegister) (n value : ℕ) → P (gives rd value (record s { vector = with_control register n s.vector }))
  pub puts : (addr asked : ℕ)
      → P (gives rd (write_count asked s.output) (record s { output = s.output ++ bytes_at s.memory addr (write_count asked s.output) }))
  pub exits : (status : ℕ) → P (ends (Exit status) s)
  pub breaks : P (ends Ebreak s)
  pub full : P (ends OutputFull s)

module _ (s : HartState) (P : Stepped → Type 0) where
  gives_is : (rd value : ℕ) → Cases s rd P → P (gives rd value s)
  gives_is rd value c = c.runs (advanced (with_register rd value s.scalar)) (wrote rd value _ s.scalar)

  goes_is : Cases s 0 P → P (retires s.scalar s)
  goes_is c = c.runs (advanced s.scalar) (wrote 0 0 _ s.scalar)

  jumps_is : (target rd value : ℕ) → Cases s rd P → P (jumps target (with_register rd value s.scalar) s)
  jumps_is target rd value c = search (arith, nat_tests, of_either, wrote)

  csr_is : (register : Option ControlRegister) (op : CsrOp) (rd source operand word : ℕ) → Cases s rd P → P (csr_step register op rd source operand word s)
  csr_is register op rd source operand word c = search (arith, nat_tests, gives_is, of_either)

  write_is : Cases s 10 P → P (write_call s)
  unfolding write_call
  write_is c = search (arith, nat_tests, gives_is, of_either)

  scalar_is : (i : ScalarInstr) → Cases s (target_of_scalar i) P → P (scalar_step i s)
  unfolding environment_call
  scalar_is (Upper op rd imm) c = gives_is rd _ c
  scalar_is (Jump rd imm) c = jumps_is _ rd (sum w64 s.scalar.pc 4) c
  scalar_is (JumpRegister rd rs1 imm) c = jumps_is _ rd (sum w64 s.scalar.pc 4) c
  scalar_is (Branch op rs1 rs2 imm) c =
      of_either P (is_taken op (read_register s.scalar rs1) (read_register s.scalar rs2)) _ _ (jumps_is _ 0 0 c) (goes_is c)
  scalar_is (Load op rd rs1 imm) c = search (arith, nat_tests, gives_is, of_either)
  scalar_is (Store op rs1 rs2 imm) c = search (arith, nat_tests, of_either)
  scalar_is (Fence rd rs1 ordering) c = goes_is c
  scalar_is (System system.Ecall) c = search (arith, nat_tests, gives_is, of_either, write_is)
  scalar_is (System system.Ebreak) c = c.breaks
  scalar_is (RegisterImmediate op rd rs1 imm) c = gives_is rd _ c
  scalar_is (ShiftImmediate op rd rs1 shamt) c = gives_is rd _ c
  scalar_is (ShiftImmediateWord op rd rs1 shamt) c = gives_is rd _ c
  scalar_is (RegisterRegister op rd rs1 rs2) c = gives_is rd _ c

  controls_is : (i : CsrInstr) (word : ℕ) → Cases s (scalar_target (instr.Csr i)) P → P (csr_executed i word s)
  controls_is i word = search (arith, nat_tests, csr_is)

-- ---- steps with the fetched instruction

-- the fetched instruction is a vector instruction, and its step is a vector step for any ticks and any state
pub record IsVectorStep (o : Option Instr) (word : ℕ) : Type 0 where
  pub instr : Instr
  pub is : o ≡ Some instr
  pub touching : touches o ≡ true
  pub vector : is_scalar o ≡ false
  pub same : (n : ℕ) (w : HartState) → executed n o word w ≡ vector_step n instr word w

-- an instruction other than a vector instruction has the same step for any number of remaining ticks
pub record IsScalarStep (P : Stepped → Type 0) (known_scalar : Bool) (of : ℕ → Stepped) : Type 0 where
  pub result : Stepped
  pub same : (n : ℕ) → of n ≡ result
  pub holds : P result
  pub scalar : known_scalar ≡ true

executed_is : (s : HartState) (P : Stepped → Type 0) (o : Option Instr) (word : ℕ) → Cases s (target_of o) P
    → IsScalarStep P (is_scalar o) (λ n. executed n o word s) ⊎ IsVectorStep o word
unfolding executed
executed_is s P None word c = inl (record { result = _; same = λ n. refl; holds = c.fault IllegalInstruction word; scalar = refl })
executed_is s P (Some (instr.Scalar i)) word c = inl (record { result = _; same = λ n. refl; holds = scalar_is s P i c; scalar = refl })
executed_is s P (Some (instr.Csr i)) word c = inl (record { result = _; same = λ n. refl; holds = controls_is s P i word c; scalar = refl })
executed_is s P (Some i) word c = inr (record { instr = i; is = refl; touching = refl; vector = refl; same = λ n w. refl })

-- a state from which this word is fetched executes the word's instruction
pub record Fetches (word : ℕ) (s : HartState) : Type 0 where
  pub allowed : can_access access.Fetch s.memory s.scalar.pc 4 ≡ true
  pub reads : word_at s.memory s.scalar.pc ≡ word

pub step_of : (n word : ℕ) (s : HartState) → Fetches word s → step n s ≡ executed n (scan table word) word s
unfolding step
step_of n word s f = search

pub record IsVector (s : HartState) : Type 0 where
  pub fetches : Fetches (word_at s.memory s.scalar.pc) s
  pub vector : IsVectorStep (scan table (word_at s.memory s.scalar.pc)) (word_at s.memory s.scalar.pc)
  pub is_fetched : fetched s.memory s.scalar.pc ≡ Some vector.instr
  pub same : (n : ℕ) → step n s ≡ vector_step n vector.instr (word_at s.memory s.scalar.pc) s

-- a step is one of the cases, or the step of a vector instruction
pub by_case : (s : HartState) (P : Stepped → Type 0) → Cases s (target_at s) P
    → IsScalarStep P (is_scalar (fetched s.memory s.scalar.pc)) (λ n. step n s) ⊎ IsVector s
unfolding step
by_case s P c =
    let word : ℕ = word_at s.memory s.scalar.pc in
    let at : Bool → Option Instr = λ b. cond b (scan table word) None in
    let makes : Bool → ℕ → Stepped = λ b n. cond b (executed n (scan table word) word s) (faults FetchAccess s.scalar.pc s) in
    of_bool (can_access access.Fetch s.memory s.scalar.pc 4) (λ b. IsScalarStep P (is_scalar (at b)) (makes b) ⊎ IsVector s)
    (λ e. elim (executed_is s P (scan table word) word c) [
      | inl t ↦ inl t
      | inr v ↦
          let f : Fetches word s = record { allowed = e; reads = refl } in
          inr (record { fetches = f; vector = v; is_fetched = ap at e ∙ v.is; same = λ n. step_of n word s f ∙ v.same n s })
    ])
    (λ e. inl (record { result = _; same = λ n. refl; holds = c.fault FetchAccess s.scalar.pc; scalar = refl }))

pub of_step : (limit : ℕ) (s : HartState) (P : Stepped → Type 0) → Cases s (target_at s) P
    → ((i : Instr) (word : ℕ) → target_at s ≡ scalar_target i → P (vector_step limit i word s)) → P (step limit s)
of_step limit s P c vector = elim (by_case s P c) [
  | inl t ↦ subst P (sym (t.same limit)) t.holds
  | inr v ↦ subst P (sym (v.same limit)) (vector v.vector.instr (word_at s.memory s.scalar.pc) (ap target_of v.vector.is))
]

-- ---- vector instructions that neither load nor store

-- an operation sets the vector length, leaves registers and a saturation flag, or is illegal
pub record Operations (s : HartState) (rd : ℕ) (P : VectorStepped → Type 0) : Type 0 where
  pub sets : (vtype : ℕ) (length : RequestedLength) → P (vset_step rd vtype length s)
  pub leaves : (scalar : Scalar) → Wrote rd s.scalar scalar → (file : List ℕ) (saturated : Bool)
      → P (leaves scalar (record s.vector { file = file; vxsat = saturated }) s)
  pub illegal : P (vector_ends Illegal s)

module _ (s : HartState) (P : VectorStepped → Type 0) where
  -- no scalar register is written
  none_wrote : Wrote 0 s.scalar s.scalar
  none_wrote = wrote 0 0 s.scalar.pc s.scalar

  typed_is : (rd : ℕ) → Operations s rd P → (o : Option VType) (done : VType → HartState → VectorStepped) → ((t : VType) → P (done t s)) → P (typed o done s)
  typed_is rd c o done each = search (arith, nat_tests)

  arith_is : (t : VType) (g w : GroupType) (op : VectorOp) (source : Source) (vd vs2 : ℕ) (vm : Bool) → Operations s 0 P → P (arith_step t g w op source vd vs2 vm s)
  arith_is t g w op source vd vs2 vm c = search (arith, nat_tests, none_wrote)

  mask_unary_is : (t : VType) (op : MaskUnaryOp) (vd vs2 : ℕ) (vm : Bool) → Operations s 0 P → P (typed_step (MaskUnary op vd vs2 vm) t s)
  mask_unary_is t op vd vs2 vm c = search (arith, nat_tests, none_wrote)

  pub operation_is : (i : VectorInstr) → Operations s (target_of_vector i) P → P (operation_step i s)
  unfolding operation_step
  operation_is i c = search (arith, nat_tests, arith_is, mask_unary_is, none_wrote, typed_is, wrote_alone)

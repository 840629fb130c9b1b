-- A step of a vector operation changes no element outside `changes`. The first part covers the step of any vector instruction.
use Rattle.std.proofs.Common.{◌≡◌, ◌∙◌, refl, sym, subst, ℕ, Bool, false, List, length, Option, Some, None, arith}
use Rattle.std.specs.Option.{option_map_or}
use Rattle.std.proofs.lemmas.Bool.Decides.{nat_tests}
use Rattle.rv_model.specs.declared.instructions.instruction.Instr.{Instr}
use Rattle.rv_model.specs.declared.instructions.instruction.Instr.TheVariants as instr
use Rattle.rv_model.specs.declared.instructions.vector.VectorInstr.{VectorInstr}
use Rattle.rv_model.specs.declared.instructions.vector.VectorInstr.TheVariants.{SetVli, SetIvli, SetVl}
use Rattle.rv_model.specs.declared.legality.Operand.{Operand}
use Rattle.rv_model.specs.declared.step.vector_end.VEnd.{VEnd}
use Rattle.rv_model.specs.declared.vector.types.VType.{VType}
use Rattle.rv_model.specs.elements.Bodies.{operation_body}
use Rattle.rv_model.specs.legality.Legality.{is_legal}
use Rattle.rv_model.specs.memory.Memory.{Memory}
use Rattle.rv_model.specs.step.Changes.{DiffersAtMost, StepsKeepOthers, changes, changes_in, destination_of}
use Rattle.rv_model.specs.step.Hart.{HartState, Stepped}
use Rattle.rv_model.specs.step.Step.{VectorStepped, after_vector, executed, fetched, operation_step, performed, step, typed, typed_step, vector_executed, vector_step, vector_ticks, word_at}
use Rattle.rv_model.proofs.Choices.{of_bool, of_either}
use Rattle.rv_model.proofs.step_lemmas.KeptElements.{typed_keeps}

-- ---- the step of a vector instruction

-- the step of a fetched instruction
fetched_step : (limit : ℕ) (i : Instr) (s : HartState) → fetched s.memory s.scalar.pc ≡ Some i → step limit s ≡ executed limit (Some i) (word_at s.memory s.scalar.pc) s
unfolding step
fetched_step limit i s = search (arith, nat_tests, of_bool)

-- a property of the vector registers and the memory holds after the step of a vector instruction, if it holds before the step and after
-- each legal instruction
module _ (P : List ℕ → Memory → Type 0) where
  abbrev Of : HartState → Type 0
  Of w = P w.vector.file w.memory

  after_is : (ticks : ℕ) (end : VEnd) (word : ℕ) (w : HartState) → Of w → Of (after_vector ticks end word w).state
  after_is ticks end word w is = search (arith, nat_tests)

  executed_is : (limit : ℕ) (i : Instr) (s : HartState) → Of s → Of (performed limit i s).state → Of (vector_executed limit i s).state
  unfolding vector_executed
  executed_is limit i s stays done = of_either (λ (d : VectorStepped). Of d.state) (is_legal i s.vector.conf.vtype s.vector.vstart) _ _ done stays

  pub vector_step_is : (limit : ℕ) (i : Instr) (s : HartState) → fetched s.memory s.scalar.pc ≡ Some i
      → ((word : ℕ) → executed limit (Some i) word s ≡ vector_step limit i word s) → Of s → Of (performed limit i s).state → Of (step limit s).state
  vector_step_is limit i s is vector stays done =
      let d : VectorStepped = vector_executed limit i s in
      let word : ℕ = word_at s.memory s.scalar.pc in
      subst (λ (r : Stepped). Of r.state) (sym (fetched_step limit i s is ∙ vector word))
      (after_is (vector_ticks limit i s) d.end word d.state (executed_is limit i s stays done))

-- ---- operations

module _ (s : HartState) (long : length s.vector.file ≡ 1024) where
  abbrev Stays : VectorInstr → List ℕ → Type 0
  Stays i file = DiffersAtMost (destination_of i s.vector.conf.vtype) (changes_in s i) s.vector.file file

  untouched : (o : Option Operand) (selected : ℕ → Bool) → DiffersAtMost o selected s.vector.file s.vector.file
  untouched o selected = search (arith, nat_tests)

  typed_stays : (i : VectorInstr) (o : Option VType)
      → DiffersAtMost (destination_of i o) (λ e. option_map_or (λ t. changes i t s.policy (operation_body i t s.vector) e) o false) s.vector.file (typed o (typed_step i) s).state.vector.file
  typed_stays i None = untouched _ _
  typed_stays i (Some t) = typed_keeps i t s long

  operation_stays : (i : VectorInstr) → Stays i (operation_step i s).state.vector.file
  unfolding operation_step
  operation_stays (SetVli rd rs1 vtype) = untouched _ _
  operation_stays (SetIvli rd avl vtype) = untouched _ _
  operation_stays (SetVl rd rs1 rs2) = untouched _ _
  operation_stays i = typed_stays i s.vector.conf.vtype

pub steps_keep_others : StepsKeepOthers
unfolding executed performed
steps_keep_others limit i s long is =
    vector_step_is (λ file memory. Stays s long i file) limit (instr.Vector i) s is (λ word. refl) (untouched s long _ _) (operation_stays s long i)

-- The state after an instruction that completed. A vector load or store that completed is legal, and doesn't increase the vector length.
use Rattle.std.proofs.Common.{◌≡◌, ℕ, ◌≤◌, true, Option, Some, refl, sym, subst, arith}
use Rattle.rv_model.specs.accesses.VectorAccess.{access_of}
use Rattle.rv_model.specs.declared.instructions.access.AccessInstr.{AccessInstr}
use Rattle.rv_model.specs.declared.instructions.instruction.Instr.{Instr}
use Rattle.rv_model.specs.declared.instructions.instruction.Instr.TheVariants as instr
use Rattle.rv_model.specs.declared.memory.Access.TheVariants.{Fetch}
use Rattle.rv_model.specs.declared.step.vector_end.VEnd.{VEnd}
use Rattle.rv_model.specs.declared.step.vector_end.VEnd.TheVariants as vector_end
use Rattle.rv_model.specs.declared.vector.state.VState.{VState}
use Rattle.rv_model.specs.instructions.Table.{scan, table}
use Rattle.rv_model.specs.legality.Legality.{is_legal}
use Rattle.rv_model.specs.memory.Memory.{Memory, can_access}
use Rattle.rv_model.specs.step.Hart.{HartState, Stepped}
use Rattle.rv_model.specs.step.MemoryStep.{load_fills_masked_off}
use Rattle.rv_model.specs.step.Step.{VectorStepped, access_step, after_vector, executed, performed, step, vector_executed, vector_step, vector_ticks}
use Rattle.rv_model.proofs.Choices.{of_either, of_option, of_test}
use Rattle.rv_model.proofs.access_lemmas.Runs.{run_facts}
use Rattle.recording.specs.Runs.{is_counted, word_of}
use Rattle.commit_log.specs.Finds.{Retires}

abbrev pub Retired : Instr → HartState → Stepped → Type 0
Retired i s r = is_counted r.end ≡ true → Retires i s.vector r.state.vector.conf.vl

module _ (s : HartState) where
  -- a property of the fetched instruction, if it completes, holds for the step
  pub of_counted : (P : Stepped → Type 0) (o : Option Instr) → scan table (word_of s) ≡ o
      → (is_counted (executed 256 o (word_of s) s).end ≡ true → P (executed 256 o (word_of s) s)) → is_counted (step 256 s).end ≡ true → P (step 256 s)
  unfolding step
  of_counted P o is done =
      of_either (λ (r : Stepped). is_counted r.end ≡ true → P r) (can_access Fetch s.memory s.scalar.pc 4) _ _
      (subst (λ (q : Option Instr). is_counted (executed 256 q (word_of s) s).end ≡ true → P (executed 256 q (word_of s) s)) (sym is) done) (λ h. absurd (cc))

  after : (P : VState → Memory → Type 0) (ticks : ℕ) (end : VEnd) (word : ℕ) (w : HartState) → (end ≡ vector_end.Done → P w.vector w.memory)
      → is_counted (after_vector ticks end word w).end ≡ true → P (after_vector ticks end word w).state.vector (after_vector ticks end word w).state.memory
  after P ticks vector_end.Done word w is h = is refl
  after P ticks _ word w is h = absurd (cc)

  -- a property of a legal vector instruction that completes holds for its step
  pub of_done : (P : VState → Memory → Type 0) (i : Instr) (word : ℕ)
      → (is_legal i s.vector.conf.vtype s.vector.vstart ≡ true → (performed 256 i s).end ≡ vector_end.Done → P (performed 256 i s).state.vector (performed 256 i s).state.memory)
      → is_counted (vector_step 256 i word s).end ≡ true → P (vector_step 256 i word s).state.vector (vector_step 256 i word s).state.memory
  unfolding vector_executed
  of_done P i word done =
      after P (vector_ticks 256 i s) (vector_executed 256 i s).end word (vector_executed 256 i s).state
      (of_test (λ (d : VectorStepped). d.end ≡ vector_end.Done → P d.state.vector d.state.memory) (is_legal i s.vector.conf.vtype s.vector.vstart) _ _ done (λ e h. absurd (cc)))

  no_longer : (limit : ℕ) (i : AccessInstr) → (access_step limit i (access_of i s.vector s.scalar) s).state.vector.conf.vl ≤ s.vector.conf.vl
  no_longer limit i =
      of_option (access_of i s.vector s.scalar) (λ o. (access_step limit i o s).state.vector.conf.vl ≤ s.vector.conf.vl) (λ e. omega arith)
      (λ a e. (run_facts limit (load_fills_masked_off a s) i s.vector s.scalar s.memory a e).length)

  executed_retires : (i : Instr) (word : ℕ) → Retired i s (executed 256 (Some i) word s)
  unfolding executed performed
  executed_retires (instr.Access i) word = of_done (λ v m. Retires (instr.Access i) s.vector v.conf.vl) (instr.Access i) word (λ e h. (e, no_longer 256 i))
  executed_retires _ word = λ h. tt

  pub steps_retire : (i : Instr) → scan table (word_of s) ≡ Some i → Retired i s (step 256 s)
  steps_retire i is = of_counted (λ (r : Stepped). Retires i s.vector r.state.vector.conf.vl) (Some i) is (executed_retires i (word_of s))

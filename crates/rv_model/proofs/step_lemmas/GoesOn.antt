-- A vector instruction that stops continues where it stopped, and so does a step that is cut or faults.
use Rattle.std.proofs.Common.{◌≡◌, ℕ, ◌≤◌, None, refl, sym, subst, true, arith}
use Rattle.rv_model.specs.declared.instructions.instruction.Instr.{Instr}
use Rattle.rv_model.specs.declared.vector.sizes.TheConstants.{GROUP_BYTES}
use Rattle.rv_model.specs.accesses.Restarts.{GoesOn}
use Rattle.rv_model.specs.accesses.VectorAccess.{index_count, vector_access}
use Rattle.rv_model.specs.memory.Memory.{Memory}
use Rattle.rv_model.specs.step.Hart.{HartState, Stepped}
use Rattle.rv_model.specs.step.Resumes.{InstructionGoesOn, InstructionsGoOn, StepGoesOn, StepsGoOn, finds, instruction_from, step_from}
use Rattle.rv_model.specs.step.Step.{fetched, step, touches, VectorStepped, vector_executed, vector_step}
use Rattle.rv_model.specs.vector.Groups.{IsConfiguration}
use Rattle.rv_model.proofs.access_lemmas.RunsAgain.{ends_whole}
use Rattle.rv_model.proofs.step_lemmas.Cuts.{cut_at}
use Rattle.rv_model.proofs.step_lemmas.FetchesResume.{cut_step_leaves_off, cut_vector_step_leaves_off, fetched_resumes, step_uncut, vector_step_resumes, vector_step_uncut}
use Rattle.rv_model.proofs.step_lemmas.StepTicks.{steps_take_ticks}
use Rattle.rv_model.proofs.step_lemmas.StepsResume.{instruction_leaves_off, instruction_resumes, instruction_stops}
use Rattle.rv_model.proofs.step_lemmas.Ticks.{executed_same, vector_steps_take_ticks}

-- ---- one vector instruction

enough_uncut : (whole : ℕ) (i : Instr) (s : HartState) → index_count (vector_access i s.vector s.scalar) ≤ whole
    → (instruction_from i s).IsUncut (vector_executed whole i s)
enough_uncut whole i s enough index e = search (arith, cut_at)

pub instructions_go_on : InstructionsGoOn
instructions_go_on limit i s is = record {
  part = λ stops. instruction_stops limit i s is stops;
  cut = λ index cut. instruction_leaves_off limit i s index cut;
  again = on limit s.memory;
  whole =
      ends_whole VectorStepped (instruction_from i s) on (index_count (vector_access i s.vector s.scalar))
      (λ limit larger m more uncut. executed_same limit larger more (finds m s) i uncut)
      (λ limit m enough. enough_uncut limit i (finds m s) enough) limit s.memory;
}
  where
    on : (limit : ℕ) (m : Memory) → GoesOn (instruction_from i s) m (vector_executed limit i (finds m s))
    on limit m later more follows = instruction_resumes limit later i (finds m s) more is follows.0 follows.1

pub instruction_goes_on : (limit : ℕ) (i : Instr) (s : HartState) (r : VectorStepped)
    → IsConfiguration s.vector.conf → vector_executed limit i s ≡ r → InstructionGoesOn limit i s r
instruction_goes_on limit i s r conf is = subst (InstructionGoesOn limit i s) is (instructions_go_on limit i s conf)

-- ---- one step

pub vector_steps_go_on : (i : Instr) (word : ℕ) → StepsGoOn (λ limit. vector_step limit i word) (λ m pc. None)
vector_steps_go_on i word limit s is = record {
  cut = λ cut. cut_vector_step_leaves_off limit i word s cut;
  again = on limit s.memory;
  whole = λ known.
      ends_whole Stepped (step_from (λ limit. vector_step limit i word) (λ m pc. None) s) on GROUP_BYTES
      (λ limit larger m more uncut. (vector_steps_take_ticks i word).more limit larger (finds m s) more uncut)
      (λ limit m enough. vector_step_uncut limit i word (finds m s) is enough) limit s.memory;
}
  where
    on : (limit : ℕ) (m : Memory) → GoesOn (step_from (λ limit. vector_step limit i word) (λ m pc. None) s) m (vector_step limit i word (finds m s))
    on limit m later more follows = sym (vector_step_resumes limit later i word (finds m s) more is follows.0 follows.2)

-- the vector type allows the vector length if the instruction touches the vector unit
pub step_goes_on : (limit : ℕ) (s : HartState) (r : Stepped) → (touches (fetched s.memory s.scalar.pc) ≡ true → IsConfiguration s.vector.conf)
    → step limit s ≡ r → StepGoesOn step fetched limit s r
step_goes_on limit s r conf is =
    subst (StepGoesOn step fetched limit s) is
    (record {
      cut = λ cut. cut_step_leaves_off limit s cut;
      again = λ later more follows. sym (fetched_resumes limit later s more conf follows.0 follows.1 follows.2);
      whole = λ known.
          ends_whole Stepped (step_from step fetched s)
          (λ limit m later more follows. sym (fetched_resumes limit later (finds m s) more (λ touching. known) follows.0 follows.1 follows.2)) GROUP_BYTES
          (λ limit larger m more uncut. steps_take_ticks.more limit larger (finds m s) more uncut)
          (λ limit m enough. step_uncut limit (finds m s) known enough) limit s.memory;
    })

pub steps_go_on : StepsGoOn step fetched
steps_go_on limit s is = step_goes_on limit s (step limit s) (λ touching. is) refl

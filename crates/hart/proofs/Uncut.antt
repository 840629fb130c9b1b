-- Nothing is cut if the limit in ticks is at least the maximum number of elements of a vector.
use Rattle.std.proofs.Common.{◌≡◌, ◌≢◌, ℕ, ◌≤◌, true, false, Option, Some, refl}
use Rattle.rv_model.specs.declared.instructions.instruction.Instr.{Instr}
use Rattle.rv_model.specs.declared.instructions.instruction.Instr.TheVariants as instr
use Rattle.rv_model.specs.declared.step.step_end.StepEnd.TheVariants.{Cut}
use Rattle.rv_model.specs.declared.vector.sizes.TheConstants.{GROUP_BYTES}
use Rattle.rv_model.specs.step.Hart.{HartState}
use Rattle.rv_model.specs.step.Step.{fetched, step, touches}
use Rattle.rv_model.specs.step.Ticks.{is_scalar}
use Rattle.rv_model.specs.vector.Groups.{IsConfiguration}
use Rattle.rv_model.proofs.Choices.{of_bool}
use Rattle.rv_model.proofs.step_lemmas.FetchesResume.{step_uncut}
use Rattle.rv_model.proofs.step_lemmas.StepTicks.{scalar_steps_take_one_tick}

-- an instruction that isn't scalar touches the vector unit
vector_touches : (o : Option Instr) → is_scalar o ≡ false → touches o ≡ true
vector_touches (Some (instr.Vector i)) h = refl
vector_touches (Some (instr.Access i)) h = refl
vector_touches _ h = absurd (cc)

-- premise: if the instruction touches the vector unit, the vector length is one that the vector type allows
pub never_cut : (limit : ℕ) (s : HartState) → (touches (fetched s.memory s.scalar.pc) ≡ true → IsConfiguration s.vector.conf) → GROUP_BYTES ≤ limit
    → (step limit s).end ≢ Cut
never_cut limit s conf enough =
    of_bool (is_scalar (fetched s.memory s.scalar.pc)) (λ b. (step limit s).end ≢ Cut) (λ scalar. (scalar_steps_take_one_tick limit s scalar).1)
    (λ vector. step_uncut limit s (conf (vector_touches (fetched s.memory s.scalar.pc) vector)) enough)

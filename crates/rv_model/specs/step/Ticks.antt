-- Laws of the ticks of steps. A cut is the only end that a limit of ticks causes.
use Rattle.std.specs.Option.{option_map_or}
use Rattle.std.specs.Prelude.{ℕ, ◌≡◌, ◌≢◌, ◌≤◌, not, Bool, true, Option}
use Rattle.rv_model.specs.declared.instructions.instruction.Instr.{Instr}
use Rattle.rv_model.specs.declared.step.step_end.StepEnd.TheVariants.{Cut}
use Rattle.rv_model.specs.step.Hart.{HartState, Stepped}
use Rattle.rv_model.specs.step.Step.{fetched, step, is_vector}

-- A step takes at least one tick and at most the remaining ticks. A step that is cut takes all remaining ticks, and preserves the program
-- counter and all other scalar registers. Any other step is the same if more ticks remain.
pub record TakesTicks (make : ℕ → HartState → Stepped) : Type 0 where
  pub within : (limit : ℕ) (s : HartState) → 1 ≤ limit → (1 ≤ (make limit s).ticks) × ((make limit s).ticks ≤ limit)
  pub cut : (limit : ℕ) (s : HartState) → (make limit s).end ≡ Cut
      → ((make limit s).ticks ≡ limit) × ((make limit s).state.scalar ≡ s.scalar)
  pub more : (limit larger : ℕ) (s : HartState) → limit ≤ larger → (make limit s).end ≢ Cut → make larger s ≡ make limit s

-- whether the fetched instruction isn't a vector instruction: it is scalar or accesses a control register, its word isn't an instruction,
-- or the fetch fails
abbrev pub is_scalar : Option Instr → Bool
is_scalar o = option_map_or (λ i. not (is_vector i)) o true

-- Such a step takes one tick, whatever the limit is, and isn't cut.
abbrev pub ScalarStepsTakeOneTick : Type 0
ScalarStepsTakeOneTick = (limit : ℕ) (s : HartState) → is_scalar (fetched s.memory s.scalar.pc) ≡ true
    → ((step limit s).ticks ≡ 1) × ((step limit s).end ≢ Cut)

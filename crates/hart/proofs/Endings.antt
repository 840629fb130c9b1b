-- If the function of an instruction returns a positive number, the instruction ran and took this number of ticks. If it returns 0, the
-- `Ending` has its end and ticks.
use Rattle.std.proofs.Common.{◌≡◌, ℕ, zero, suc, ◌≤◌, refl, arith}
use Rattle.rv_model.specs.declared.step.step_end.StepEnd.TheVariants.{Ran}
use Rattle.hart.specs.declared.ending.Ending.{Ending}
use Rattle.hart.specs.States.{end_by, ticks_by}

pub took_ticks : (ticks : ℕ) (e : Ending) → 1 ≤ ticks → (end_by ticks e ≡ Ran) × (ticks_by ticks e ≡ ticks)
unfolding end_by ticks_by
took_ticks zero e some = absurd (omega (arith, some))
took_ticks (suc n) e some = (refl, refl)

pub set_ticks : (ticks : ℕ) (e : Ending) → ticks ≤ 0 → (end_by ticks e ≡ e.end) × (ticks_by ticks e ≡ e.ticks)
unfolding end_by ticks_by
set_ticks zero e none = (refl, refl)
set_ticks (suc n) e none = absurd (omega (arith, none))

-- Slices: only the number of remaining ticks, not the limit on the number of instructions, determines how far a run goes.
use Rattle.std.proofs.Common.{◌≡◌, ℕ, zero, suc, ◌-◌, ◌≤◌, refl, ap, arith}
use Rattle.rv_model.specs.machine.UserMachine.{after, Halted, runs_on, slice_steps, ticked, Present}
use Rattle.rv_model.specs.step.Hart.{Stepped}
use Rattle.rv_model.specs.step.Step.{step}
use Rattle.rv_model.proofs.step_lemmas.StepTicks.{step_takes_ticks}

-- one instruction, followed by this run
abbrev before : ℕ → Present → Halted → Halted
before left p rest = runs_on p.fresh left p (λ later next. rest)

-- two limits on the number of instructions give the same run if both are at least the number of remaining ticks
pub fuel_is_enough : (n k left : ℕ) (p : Present) → left ≤ n → left ≤ k → slice_steps n left p ≡ slice_steps k left p
fuel_is_enough zero zero left p h g = refl
fuel_is_enough zero (suc k) zero p h g = refl
fuel_is_enough zero (suc k) (suc left) p h g = absurd (omega (arith, h))
fuel_is_enough (suc n) zero zero p h g = refl
fuel_is_enough (suc n) zero (suc left) p h g = absurd (omega (arith, g))
fuel_is_enough (suc n) (suc k) zero p h g = refl
fuel_is_enough (suc n) (suc k) (suc left) p h g =
    let one : Stepped = step (suc left) p.hart in
    let ticks = step_takes_ticks (suc left) p.hart (omega arith) in
    ap (before (suc left) p)
    (fuel_is_enough n k (suc left - one.ticks) (after one.end one.state p) (omega (arith, h, ticks.0)) (omega (arith, g, ticks.0)))

-- a run of one or more ticks is one instruction, followed by the run of the ticks that it leaves
pub ticked_is_one_more : (left : ℕ) (p : Present) → 1 ≤ left → ticked left p ≡ runs_on p.fresh left p (λ later next. ticked later next)
ticked_is_one_more left p some = search (arith, fuel_is_enough, step_takes_ticks)

-- After any number of a user's instructions, the user is still present, and the vector type still allows the vector length.
use Rattle.std.proofs.Common.{◌≡◌, ℕ, zero, suc, Bool, false, Some, None, subst, arith}
use Rattle.std.proofs.lemmas.Bool.Decides.{nat_tests}
use Rattle.rv_model.specs.declared.step.step_end.StepEnd.{StepEnd}
use Rattle.rv_model.specs.machine.Cuts.{IsConfigured}
use Rattle.rv_model.specs.machine.UserMachine.{after, Halted, runs_on, slice_steps, steps, Present, Private}
use Rattle.rv_model.specs.step.Hart.{HartState}
use Rattle.rv_model.specs.vector.Groups.{IsConfiguration}
use Rattle.rv_model.proofs.Choices.{of_either}
use Rattle.rv_model.proofs.step_lemmas.Configurations.{step_keeps_configuration}

abbrev pub HasLength : Present → Type 0
HasLength p = IsConfiguration p.hart.vector.conf

-- the user is present afterwards, and the vector type allows the vector length if it did before
abbrev pub StaysAs : Present → Private → Type 0
StaysAs p None = ⊥
StaysAs p (Some q) = HasLength p → HasLength q

pub stays_configured : (p : Present) (next : Private) → StaysAs p next → IsConfigured (Some p) → IsConfigured next
stays_configured p next stays is = search (arith, nat_tests)

pub not_gone : (p : Present) (next : Private) → StaysAs p next → next ≡ None → ⊥
not_gone p next stays none = subst (StaysAs p) none stays

-- ---- runs of instructions

hart_after : (e : StepEnd) (state : HartState) (p : Present) → (after e state p).hart ≡ state
hart_after e state p = search (arith, nat_tests)

run_stays : (skip_once : Bool) (limit : ℕ) (p : Present) (others : ℕ → Present → Halted)
    → ((later : ℕ) (q : Present) → HasLength q → HasLength (others later q).state)
    → HasLength p → HasLength (runs_on skip_once limit p others).state
run_stays skip_once limit p others rest is = search (arith, nat_tests, hart_after, of_either, step_keeps_configuration)

pub steps_stay : (n : ℕ) (skip_once : Bool) (p : Present) → HasLength p → HasLength (steps n skip_once p).state
steps_stay zero skip_once p is = is
steps_stay (suc n) skip_once p is =
    run_stays skip_once 256 p (λ later next. steps n false next) (λ later next. steps_stay n false next) is

pub slice_stays : (n left : ℕ) (p : Present) → HasLength p → HasLength (slice_steps n left p).state
slice_stays zero left p is = is
slice_stays (suc n) zero p is = is
slice_stays (suc n) (suc left) p is =
    run_stays p.fresh (suc left) p (λ later next. slice_steps n later next) (λ later next. slice_stays n later next) is

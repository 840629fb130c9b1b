-- Runs of instructions, one at a time: the user's machine and the vector unit after them.
use Rattle.std.proofs.Common.{◌≡◌, ℕ, suc, ◌-◌, ◌≤◌, Bool, true, false, ◌∷◌, Option, Some, None, refl, ap, ◌∙◌, subst, sym}
use Rattle.std.specs.Prelude.{if◌then◌else◌, is_none, not, ◌&&◌}
use Rattle.rv_model.specs.declared.step.step_end.Stop.{Stop}
use Rattle.rv_model.specs.declared.step.step_end.Stop.TheVariants as stop
use Rattle.rv_model.specs.machine.UserMachine.{stop_of, at_breakpoint, after, Halted, halted, steps, ticked, Present, Tries}
use Rattle.rv_model.specs.machine.VectorUnit.{VectorUnit, unit_after_uses}
use Rattle.rv_model.specs.step.Step.{step}
use Rattle.rv_model.proofs.machine_lemmas.Slices.{ticked_is_one_more}
use Rattle.rv_model.proofs.step_lemmas.StepTicks.{step_takes_ticks}
use Rattle.monitor_machine.specs.Lent.{Lent, RunsTo, StepsTo, TicksTo, TriesTo}

-- ---- one instruction, and then a run of more

-- the stop after an instruction, if any, and the machine after it
abbrev stop_at : ℕ → Present → Option Stop
stop_at left p = stop_of (step left p.hart).end

abbrev next_at : ℕ → Present → Present
next_at left p = after (step left p.hart).end (step left p.hart).state p

-- the result of the run: a breakpoint stops it before the first instruction, or the first one ends with this reason
abbrev run_by : Bool → Option Stop → ℕ → Present → Halted → Halted
run_by held reason left p rest =
    let whole : Halted = if is_none reason then rest else halted (next_at left p) reason in
    if held then halted p (Some stop.Breakpoint) else record whole { uses = Tries left p.hart ∷ whole.uses }

abbrev GoesTo : ℕ → Bool → Halted → Lent → Lent → Option Stop → Type 0
GoesTo left held rest old = RunsTo (run_by held (stop_at left old.machine) left old.machine rest) old

-- a breakpoint stops the run before the first instruction
run_held : (left : ℕ) (held : Bool) (rest : Halted) (a : Lent) → held ≡ true → GoesTo left held rest a a (Some stop.Breakpoint)
run_held left held rest a h =
    subst (λ (b : Bool). RunsTo (run_by b (stop_at left a.machine) left a.machine rest) a a (Some stop.Breakpoint)) (sym h)
    (refl, refl, refl)

-- no breakpoint does, and the first instruction ends with this reason
run_first : (left : ℕ) (held : Bool) (rest : Halted) (a end : Lent) (reason why : Option Stop) → held ≡ false → stop_at left a.machine ≡ reason
    → RunsTo (run_by false reason left a.machine rest) a end why → GoesTo left held rest a end why
run_first left held rest a end reason why h is runs =
    subst (λ (b : Bool). RunsTo (run_by b (stop_at left a.machine) left a.machine rest) a end why) (sym h)
    (subst (λ (o : Option Stop). RunsTo (run_by false o left a.machine rest) a end why) (sym is) runs)

run_stops : (left ticks : ℕ) (held : Bool) (rest : Halted) (a b : Lent) (reason : Stop) → held ≡ false → TriesTo left a b (Some reason) ticks
    → GoesTo left held rest a b (Some reason)
run_stops left ticks held rest a b reason h tried =
    run_first left held rest a b (Some reason) (Some reason) h tried.1 (tried.0, refl, tried.3)

run_goes_on : (left ticks : ℕ) (held : Bool) (rest : Halted) (a b end : Lent) (reason : Option Stop) → held ≡ false → TriesTo left a b None ticks → b.user ≡ a.user
    → RunsTo rest b end reason → GoesTo left held rest a end reason
run_goes_on left ticks held rest a b end reason h tried same later =
    run_first left held rest a end None reason h tried.1 (
      later.0,
      later.1,
      later.2
          ∙ ap (λ (u : ℕ). unit_after_uses u rest.uses b.unit) same
          ∙ ap (λ (r : VectorUnit). unit_after_uses a.user rest.uses r) tried.3,
    )

-- ---- at most `count` instructions

pub no_steps : (count : ℕ) (skip_once : Bool) (a : Lent) → count ≡ 0 → StepsTo count skip_once a a None
no_steps count skip_once a e = subst (λ (k : ℕ). StepsTo k skip_once a a None) (sym e) (refl, refl, refl)

pub steps_broken : (count n : ℕ) (skip_once : Bool) (a : Lent) → count ≡ suc n → (not skip_once && at_breakpoint a.machine) ≡ true → StepsTo count skip_once a a (Some stop.Breakpoint)
steps_broken count n skip_once a e held =
    subst (λ (k : ℕ). StepsTo k skip_once a a (Some stop.Breakpoint)) (sym e)
    (run_held 256 (not skip_once && at_breakpoint a.machine) (steps n false (next_at 256 a.machine)) a held)

pub steps_stop : (count n ticks : ℕ) (skip_once : Bool) (a b : Lent) (reason : Stop) → count ≡ suc n → (not skip_once && at_breakpoint a.machine) ≡ false → TriesTo 256 a b (Some reason) ticks
    → StepsTo count skip_once a b (Some reason)
steps_stop count n ticks skip_once a b reason e free tried =
    subst (λ (k : ℕ). StepsTo k skip_once a b (Some reason)) (sym e)
    (run_stops 256 ticks (not skip_once && at_breakpoint a.machine) (steps n false (next_at 256 a.machine)) a b reason free tried)

pub steps_go_on : (count n ticks : ℕ) (skip_once : Bool) (a b end : Lent) (reason : Option Stop) → count ≡ suc n → (not skip_once && at_breakpoint a.machine) ≡ false → TriesTo 256 a b None ticks → b.user ≡ a.user
    → StepsTo n false b end reason → StepsTo count skip_once a end reason
steps_go_on count n ticks skip_once a b end reason e free tried same later =
    subst (λ (k : ℕ). StepsTo k skip_once a end reason) (sym e)
    (run_goes_on 256 ticks (not skip_once && at_breakpoint a.machine) (steps n false (next_at 256 a.machine)) a b end reason free tried same
    (subst (λ (p : Present). RunsTo (steps n false p) b end reason) (sym tried.0) later))

-- ---- the instructions of `left` ticks

-- an instruction takes at least one tick, and at most those that are left
pub took_some : (left ticks : ℕ) (a b : Lent) (reason : Option Stop) → 1 ≤ left → TriesTo left a b reason ticks → (1 ≤ ticks) × (ticks ≤ left)
took_some left ticks a b reason some tried =
    subst (λ (taken : ℕ). (1 ≤ taken) × (taken ≤ left)) tried.2 (step_takes_ticks left a.machine.hart some)

abbrev ticked_later : ℕ → Present → Halted
ticked_later left p = ticked (left - (step left p.hart).ticks) (next_at left p)

slice_on : (left : ℕ) (a b : Lent) (reason : Option Stop) → 1 ≤ left
    → GoesTo left (not a.machine.fresh && at_breakpoint a.machine) (ticked_later left a.machine) a b reason → TicksTo left a b reason
slice_on left a b reason some is = subst (λ (run : Halted). RunsTo run a b reason) (sym (ticked_is_one_more left a.machine some)) is

pub no_ticks : (left : ℕ) (a : Lent) → left ≡ 0 → TicksTo left a a None
no_ticks left a e = subst (λ (k : ℕ). TicksTo k a a None) (sym e) (refl, refl, refl)

pub slice_held : (left : ℕ) (a : Lent) → 1 ≤ left → (not a.machine.fresh && at_breakpoint a.machine) ≡ true → TicksTo left a a (Some stop.Breakpoint)
slice_held left a some held =
    slice_on left a a (Some stop.Breakpoint) some
    (run_held left (not a.machine.fresh && at_breakpoint a.machine) (ticked_later left a.machine) a held)

pub slice_stops : (left ticks : ℕ) (a b : Lent) (reason : Stop) → 1 ≤ left → (not a.machine.fresh && at_breakpoint a.machine) ≡ false → TriesTo left a b (Some reason) ticks
    → TicksTo left a b (Some reason)
slice_stops left ticks a b reason some free tried =
    slice_on left a b (Some reason) some
    (run_stops left ticks (not a.machine.fresh && at_breakpoint a.machine) (ticked_later left a.machine) a b reason free tried)

pub slices_add_up : (left ticks : ℕ) (a b end : Lent) (reason : Option Stop) → 1 ≤ left → (not a.machine.fresh && at_breakpoint a.machine) ≡ false → TriesTo left a b None ticks → b.user ≡ a.user
    → TicksTo (left - ticks) b end reason → TicksTo left a end reason
slices_add_up left ticks a b end reason some free tried same later =
    slice_on left a end reason some
    (run_goes_on left ticks (not a.machine.fresh && at_breakpoint a.machine) (ticked_later left a.machine) a b end reason free tried same
    (subst (λ (n : ℕ). RunsTo (ticked (left - n) (next_at left a.machine)) b end reason) (sym tried.2)
    (subst (λ (p : Present). RunsTo (ticked (left - ticks) p) b end reason) (sym tried.0) later)))

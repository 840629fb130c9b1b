-- A run compared with the monitor's steps.
use Rattle.std.proofs.Common.{◌≡◌, ◌≤◌, ◌-◌, refl, ℕ, suc, zero, Bool, true, false, List, [], ◌∷◌, ◌++◌, Option, Some, is_none, length, if◌then◌else◌, ap, ◌∙◌, sym, subst, append-nil, append_assoc, flat_map, length-append, arith}
use Rattle.std.specs.Prelude.{not, ◌&&◌}
use Rattle.rv_model.specs.declared.step.step_end.StepEnd.{StepEnd}
use Rattle.rv_model.specs.declared.step.step_end.StepEnd.TheVariants.{Ran, Cut}
use Rattle.rv_model.specs.declared.step.step_end.Stop.{Stop}
use Rattle.rv_model.specs.declared.step.step_end.Stop.TheVariants as stop
use Rattle.rv_model.specs.machine.UserMachine.{Halted, Tries, after, at_breakpoint, halted, steps, stop_of, Present}
use Rattle.rv_model.specs.step.Hart.{HartState, Stepped}
use Rattle.rv_model.specs.step.Step.{step}
use Rattle.recording.specs.Laws.{RunsAsSteps}
use Rattle.recording.specs.Machines.{taken}
use Rattle.recording.specs.Runs.{Run, begins, output_of, run, run_by}
use Rattle.recording.proofs.Outputs.{joined, step_joins, with_output}

after_hart : (end : StepEnd) (h : HartState) (p : Present) → (after end h p).hart ≡ h
after_hart Ran h p = refl
after_hart Cut h p = refl
after_hart _ h p = refl

after_breaks : (end : StepEnd) (h : HartState) (p : Present) → (after end h p).breakpoints ≡ p.breakpoints
after_breaks Ran h p = refl
after_breaks Cut h p = refl
after_breaks _ h p = refl

none_holds : (p : Present) → p.breakpoints ≡ [] → at_breakpoint p ≡ false
none_holds p none = subst (λ (bs : List ℕ). at_breakpoint (record p { breakpoints = bs }) ≡ false) (sym none) refl

never_held : (skip_once held : Bool) → held ≡ false → (not skip_once && held) ≡ false
never_held true held e = refl
never_held false held e = e

-- the outcome of an instruction, with its attempt added to the uses of the vector unit
abbrev tried : Present → Halted → Halted
tried p rest = record rest { uses = Tries 256 p.hart ∷ rest.uses }

-- the outcome of one instruction with this end, after a test for a breakpoint, and of the instructions after it
abbrev runs_by : Bool → Present → (Present → Halted) → Stepped → Halted
runs_by held p others one =
    let next : Present = after one.end one.state p in
    if held then halted p (Some stop.Breakpoint)
    else tried p (if is_none (stop_of one.end) then others next else halted next (stop_of one.end))

-- the state after one instruction and those after it, by whether a breakpoint stops it and whether the program continues
abbrev hart_by : Bool → Bool → Halted → HartState → HartState → HartState
hart_by held goes others here next = if held then here else if goes then others.state.hart else next

by_choice : (held goes : Bool) (p next : Present) (others : Halted) (why : Option Stop)
    → (if held then halted p (Some stop.Breakpoint) else tried p (if goes then others else halted next why)).state.hart ≡ hart_by held goes others p.hart next.hart
by_choice true goes p next others why = refl
by_choice false true p next others why = refl
by_choice false false p next others why = refl

-- the first instruction of a run, if the others equal steps
module _ (x : HartState) (o : List ℕ) (skip_once : Bool) (p : Present) (rest : Run) (none : p.breakpoints ≡ []) (at : p.hart ≡ with_output o x) where
  first_is : (m : ℕ) (goes : Bool) → length o ≤ 768 → is_none (stop_of (step 256 (taken x)).end) ≡ goes
      → (steps (suc m) skip_once p).state.hart
      ≡ (if goes then (steps m false (after (step 256 (taken x)).end (joined o (step 256 (taken x))).state p)).state.hart else (joined o (step 256 (taken x))).state)
  first_is m goes few whether =
      let one : Stepped = step 256 (taken x) in
      let next : Present = after one.end (joined o one).state p in
      ap (λ (j : Stepped). (runs_by (not skip_once && at_breakpoint p) p (λ q. steps m false q) j).state.hart) (ap (λ (h : HartState). step 256 h) at ∙ step_joins o x few)
      ∙ by_choice (not skip_once && at_breakpoint p) (is_none (stop_of one.end)) p next (steps m false next) (stop_of one.end)
      ∙ ap (λ (b : Bool). hart_by b (is_none (stop_of one.end)) (steps m false next) p.hart next.hart) (never_held skip_once (at_breakpoint p) (none_holds p none))
      ∙ ap (λ (b : Bool). if b then (steps m false next).state.hart else next.hart) whether
      ∙ ap (λ (h : HartState). if goes then (steps m false next).state.hart else h) (after_hart one.end (joined o one).state p)

  begun : (goes : Bool) → is_none (stop_of (step 256 (taken x)).end) ≡ goes
      → length (o ++ flat_map output_of (begins (taken x) goes (step 256 (taken x)).end (taken (step 256 (taken x)).state) rest).found) ≤ 768
      → ((next : Present) → next.breakpoints ≡ [] → next.hart ≡ with_output (o ++ output_of (taken x)) (step 256 (taken x)).state
      → length ((o ++ output_of (taken x)) ++ flat_map output_of rest.found) ≤ 768
      → (steps (length rest.found) false next).state.hart ≡ with_output ((o ++ output_of (taken x)) ++ flat_map output_of rest.found) rest.state)
      → (steps (length (begins (taken x) goes (step 256 (taken x)).end (taken (step 256 (taken x)).state) rest).found) skip_once p).state.hart
      ≡ with_output (o ++ flat_map output_of (begins (taken x) goes (step 256 (taken x)).end (taken (step 256 (taken x)).state) rest).found) (begins (taken x) goes (step 256 (taken x)).end (taken (step 256 (taken x)).state) rest).state
  begun true whether fits others =
      let one : Stepped = step 256 (taken x) in
      let more : List ℕ = flat_map output_of rest.found in
      let next : Present = after one.end (joined o one).state p in
      let same : length ((o ++ output_of (taken x)) ++ more) ≡ length (o ++ (output_of (taken x) ++ more)) = ap length (append_assoc o (output_of (taken x)) more) in
      let few : length o ≤ 768 = omega (arith, fits, length-append o (output_of (taken x) ++ more)) in
      first_is (length rest.found) true few whether
      ∙ others next (after_breaks one.end (joined o one).state p ∙ none) (after_hart one.end (joined o one).state p) (omega (arith, fits, same))
      ∙ ap (λ (l : List ℕ). with_output l rest.state) (append_assoc o (output_of (taken x)) more)
  begun false whether fits others =
      let few : length o ≤ 768 = omega (arith, fits, length-append o (output_of (taken x) ++ [])) in
      first_is 0 false few whether
      ∙ ap (λ (l : List ℕ). with_output (o ++ l) (step 256 (taken x)).state) (sym (append-nil (output_of (taken x))))

steps_from : (n left : ℕ) (x : HartState) (o : List ℕ) (skip_once : Bool) (p : Present) → p.breakpoints ≡ [] → p.hart ≡ with_output o x
    → length (o ++ flat_map output_of (run n left (taken x)).found) ≤ 768
    → (steps (length (run n left (taken x)).found) skip_once p).state.hart ≡ with_output (o ++ flat_map output_of (run n left (taken x)).found) (run n left (taken x)).state
unfolding run_by
steps_from zero left x o skip_once p none at fits = at ∙ ap (λ (l : List ℕ). with_output l x) (sym (append-nil o))
steps_from (suc n) zero x o skip_once p none at fits = at ∙ ap (λ (l : List ℕ). with_output l x) (sym (append-nil o))
steps_from (suc n) (suc left) x o skip_once p none at fits =
    let one : Stepped = step 256 (taken x) in
    begun x o skip_once p (run n (suc left - one.ticks) (taken one.state)) none at (is_none (stop_of one.end)) refl fits
    (λ next breaks here few. steps_from n (suc left - one.ticks) one.state (o ++ output_of (taken x)) false next breaks here few)

pub runs_as_steps : RunsAsSteps
runs_as_steps ticks skip_once p none fits = steps_from ticks ticks p.hart p.hart.output skip_once p none refl (omega (arith, fits))

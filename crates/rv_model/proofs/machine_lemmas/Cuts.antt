-- A slice of m ticks followed by a slice of n ticks equals a slice of m + n ticks.
use Rattle.std.proofs.Common.{◌≡◌, ◌≢◌, ℕ, zero, suc, ◌+◌, ◌*◌, ◌-◌, ◌≤◌, Bool, true, false, List, [], ◌∷◌, ◌++◌, Option, Some, None, refl, sym, ◌∙◌, ap, subst, ◌⊎◌, inl, inr, arith}
use Rattle.std.specs.Prelude.{All, is_none, not, ◌&&◌, if◌then◌else◌}
use Rattle.std.proofs.lemmas.Bool.{cases_Bool}
use Rattle.std.proofs.lemmas.List.{append-nil}
use Rattle.std.proofs.lemmas.List.Elements.{All-cons, All-head, All-tail, All-same, All-nil}
use Rattle.std.proofs.lemmas.Bool.Decides.{nat_tests}
use Rattle.rv_model.specs.declared.step.step_end.StepEnd.{StepEnd}
use Rattle.rv_model.specs.declared.step.step_end.StepEnd.TheVariants.{Ran, Exit, Ebreak, Fault, OutputFull, Cut}
use Rattle.rv_model.specs.declared.step.step_end.Stop.{Stop}
use Rattle.rv_model.specs.declared.step.step_end.Stop.TheVariants as stop
use Rattle.rv_model.specs.accesses.Restarts.{overlay}
use Rattle.rv_model.specs.machine.Cuts.{HaveEqualEffects, CutsAreInvisible, IsConfigured, KeepsWordIfCut, SliceKeepsConfiguration, SlicesAddUp, joined, slices}
use Rattle.rv_model.specs.machine.World.{slice_ends, sliced}
use Rattle.rv_model.specs.machine.UserMachine.{stop_of, at_breakpoint, after, Halted, halted, slice_steps, ticked, Outcome, Present, Private, Use, Tries}
use Rattle.rv_model.specs.memory.Memory.{Memory}
use Rattle.rv_model.specs.declared.memory.Access.TheVariants.{Monitor}
use Rattle.rv_model.specs.step.Hart.{HartState, Stepped}
use Rattle.rv_model.specs.step.Resumes.{IsUndone, KeepsOwnWord, after_ticks, finds}
use Rattle.rv_model.specs.step.Step.{fetched, step}
use Rattle.rv_model.specs.vector.Groups.{IsConfiguration}
use Rattle.rv_model.proofs.access_lemmas.Growth.{overlay_same}
use Rattle.rv_model.proofs.machine_lemmas.Configurations.{StaysAs, slice_stays, stays_configured}
use Rattle.rv_model.proofs.machine_lemmas.Slices.{fuel_is_enough}
use Rattle.rv_model.proofs.step_lemmas.Configurations.{step_keeps_configuration, step_keeps_permissions}
use Rattle.rv_model.proofs.step_lemmas.FetchesResume.{cut_step_leaves_off, fetched_step_resumes}
use Rattle.rv_model.proofs.Choices.{of_either}
use Rattle.rv_model.proofs.step_lemmas.StepTicks.{step_takes_ticks, steps_take_ticks}

All-left : {X : Type 0} (P : X → Type 0) (xs ys : List X) → All P (xs ++ ys) → All P xs
All-left P [] ys h = All-nil P
All-left P (x ∷ xs) ys h = All-cons P x xs (All-head P x (xs ++ ys) h) (All-left P xs ys (All-tail P x (xs ++ ys) h))

All-right : {X : Type 0} (P : X → Type 0) (xs ys : List X) → All P (xs ++ ys) → All P ys
All-right P [] ys h = h
All-right P (x ∷ xs) ys h = All-right P xs ys (All-tail P x (xs ++ ys) h)

-- ---- one instruction

-- an instruction that is cut and continues in the resulting state equals the uninterrupted one
resumed : (limit later : ℕ) (s : HartState) → IsConfiguration s.vector.conf → (step limit s).end ≡ Cut
    → KeepsOwnWord (s.vector.vstart + limit) (fetched s.memory s.scalar.pc) s
    → step (limit + later) s ≡ after_ticks limit (step later (step limit s).state)
resumed limit later s is cut keeps =
    let off : (step limit s).state.vector.vstart ≡ s.vector.vstart + limit = cut_step_leaves_off limit s cut in
    let done : (step limit s).state.vector.vstart - s.vector.vstart ≡ limit = omega (arith, off) in
    ap (λ (m : Memory). step (limit + later) (finds m s)) (sym (overlay_same s.memory (step limit s).state.memory (step_keeps_permissions Monitor limit s)))
    ∙ subst (λ (n : ℕ). step (n + later) (finds (overlay s.memory (step limit s).state.memory) s) ≡ after_ticks n (step later ((step limit s).state))) done
    (fetched_step_resumes limit later s (step limit s).state.memory is (subst IsUndone (sym cut) tt)
    (subst (λ (n : ℕ). KeepsOwnWord n (fetched s.memory s.scalar.pc) s) (sym off) keeps) (λ x c e. e))

-- an instruction retires, is cut, or stops the program
ended : (e : StepEnd)
    → ((e ≡ Ran) × (e ≢ Cut)) ⊎ ((e ≡ Cut) ⊎ ((reason : Stop) × ((stop_of e ≡ Some reason) × (e ≢ Cut))))
ended Ran = inl (refl, λ q. cc)
ended (Exit status) = inr (inr (stop.Exit status, (refl, λ q. cc)))
ended Ebreak = inr (inr (stop.Ebreak, (refl, λ q. cc)))
ended (Fault cause pc value) = inr (inr (stop.Fault cause value, (refl, λ q. cc)))
ended OutputFull = inr (inr (stop.OutputFull, (refl, λ q. cc)))
ended Cut = inr (inl refl)

-- an instruction that continues after a cut leaves the same machine as the uncut one
after_resumed : (e : StepEnd) (state half : HartState) (p : Present) → half.scalar ≡ p.hart.scalar
    → after e state (after Cut half p) ≡ after e state p
after_resumed e state half p h = search (arith, nat_tests)

-- ---- a run of instructions

-- the result of a run, without its uses of the vector unit
abbrev bare : Halted → Halted
bare run = record run { uses = [] }

abbrev comes_to : ℕ → ℕ → Present → Halted
comes_to n left p = bare (slice_steps n left p)

bare_either : (b : Bool) (x y : Halted) → bare (if b then x else y) ≡ (if b then bare x else bare y)
bare_either b x y = search (arith, nat_tests)

uses_either : (b : Bool) (x y : Halted) → (if b then x else y).uses ≡ (if b then x.uses else y.uses)
uses_either b x y = search (arith, nat_tests)

-- a breakpoint stops the program before its next instruction
abbrev should_break : Present → Bool
should_break p = not p.fresh && at_breakpoint p

-- the run after an instruction
follows : ℕ → ℕ → Present → Stepped → Halted
follows n left p one =
    if is_none (stop_of one.end) then comes_to n (left - one.ticks) (after one.end one.state p)
    else halted (after one.end one.state p) (stop_of one.end)

steps_none : (n : ℕ) (p : Present) → comes_to n 0 p ≡ halted p None
steps_none n p = search (arith, nat_tests)

steps_broken : (n left : ℕ) (p : Present) → should_break p ≡ true → 1 ≤ left
    → comes_to (suc n) left p ≡ halted p (Some stop.Breakpoint)
steps_broken n left p h l = search (arith, nat_tests)

steps_tried : (n left : ℕ) (p : Present) → should_break p ≡ false → 1 ≤ left
    → comes_to (suc n) left p ≡ follows n left p (step left p.hart)
unfolding follows
steps_tried n left p h l = search (arith, nat_tests, bare_either)

-- the uses of the vector unit after an instruction
uses_after : ℕ → ℕ → Present → Stepped → List Use
uses_after n left p one =
    if is_none (stop_of one.end) then (slice_steps n (left - one.ticks) (after one.end one.state p)).uses else []

uses_tried : (n left : ℕ) (p : Present) → should_break p ≡ false → 1 ≤ left
    → (slice_steps (suc n) left p).uses ≡ Tries left p.hart ∷ uses_after n left p (step left p.hart)
unfolding uses_after
uses_tried n left p h l = search (arith, nat_tests, uses_either)

follows_on : (n left : ℕ) (p : Present) (one : Stepped) (e : StepEnd) → one.end ≡ e → stop_of e ≡ None
    → follows n left p one ≡ comes_to n (left - one.ticks) (after e one.state p)
unfolding follows
follows_on n left p one e h s = rw (h, s) refl

follows_stop : (n left : ℕ) (p : Present) (one : Stepped) (reason : Stop) → stop_of one.end ≡ Some reason
    → follows n left p one ≡ halted (after one.end one.state p) (Some reason)
unfolding follows
follows_stop n left p one reason h = rw h refl

uses_on : (n left : ℕ) (p : Present) (one : Stepped) → one.end ≡ Ran
    → uses_after n left p one ≡ (slice_steps n (left - one.ticks) (after Ran one.state p)).uses
unfolding uses_after
uses_on n left p one h = rw h refl

-- the run after an instruction that continues after a cut equals the run after the uncut one
follows_resumed : (b c left more : ℕ) (p : Present) (half : HartState) (two : Stepped) → half.scalar ≡ p.hart.scalar
    → left + more ≤ suc b → more ≤ suc c → 1 ≤ left → 1 ≤ two.ticks
    → follows b (left + more) p (after_ticks left two) ≡ follows c more (after Cut half p) two
unfolding follows
follows_resumed b c left more p half two h lb lc some least = search (arith, nat_tests, after_resumed, fuel_is_enough)

-- a run, and another run from its final state unless the first stopped the program
abbrev goes_on : Halted → (Present → Halted) → Halted
goes_on first more = if is_none first.stop then more first.state else first

adds : (a b c left more : ℕ) (p : Present) → left ≤ a → left + more ≤ b → more ≤ c → 1 ≤ more
    → IsConfiguration p.hart.vector.conf
    → All KeepsWordIfCut (slice_steps a left p).uses
    → comes_to b (left + more) p ≡ goes_on (comes_to a left p) (λ q. comes_to c more q)
adds a b c zero more p la lb lc some is keeps = search (arith, nat_tests, fuel_is_enough, steps_none)
adds zero b c (suc left) more p la lb lc some is keeps = absurd (omega (arith, la))
adds (suc a) zero c (suc left) more p la lb lc some is keeps = absurd (omega (arith, lb))
adds (suc a) (suc b) zero (suc left) more p la lb lc some is keeps = absurd (omega (arith, lc, some))
adds (suc a) (suc b) (suc c) (suc left) more p la lb lc some is keeps =
    let here : 1 ≤ suc left = omega arith in
    let both : 1 ≤ suc left + more = omega arith in
    let larger : suc left ≤ suc left + more = omega arith in
    let one : Stepped = step (suc left) p.hart in
    let ticks = step_takes_ticks (suc left) p.hart here in
    let onwards : Halted → Halted = λ r. goes_on r (λ q. comes_to (suc c) more q) in
    elim (cases_Bool (should_break p)) [
      | inl h ↦ steps_broken b (suc left + more) p h both ∙ ap onwards (sym (steps_broken a (suc left) p h here))
      | inr h ↦
          let whole = steps_tried b (suc left + more) p h both in
          let first = ap onwards (sym (steps_tried a (suc left) p h here)) in
          let each = All-same KeepsWordIfCut _ _ (sym (uses_tried a (suc left) p h here)) keeps in
          elim (ended one.end) [
            | inl (ran, uncut) ↦
                let same = steps_take_ticks.more (suc left) (suc left + more) p.hart larger uncut in
                let q : Present = after Ran one.state p in
                let apart : (suc left + more) - one.ticks ≡ (suc left - one.ticks) + more = omega (arith, ticks.1) in
                let rest =
                All-same KeepsWordIfCut _ _ (sym (uses_on a (suc left) p one ran)) (All-tail KeepsWordIfCut _ _ each) in
                whole
                ∙ ap (follows b (suc left + more) p) same
                ∙ follows_on b (suc left + more) p one Ran ran refl
                ∙ ap (λ (n : ℕ). comes_to b n q) apart
                ∙ adds a b (suc c) (suc left - one.ticks) more q (omega (arith, la, ticks.0)) (omega (arith, lb, ticks.0)) lc some
                (step_keeps_configuration (suc left) p.hart is) rest
                ∙ ap onwards (sym (follows_on a (suc left) p one Ran ran refl))
                ∙ first
            | inr (inl cut) ↦
                let two : Stepped = step more one.state in
                let spent = steps_take_ticks.cut (suc left) p.hart cut in
                let shown = resumed (suc left) more p.hart is cut (All-head KeepsWordIfCut _ _ each cut) in
                let q : Present = after Cut one.state p in
                let over : suc left - one.ticks ≡ 0 = omega (arith, spent.0) in
                whole
                ∙ ap (follows b (suc left + more) p) shown
                ∙ follows_resumed b c (suc left) more p one.state two spent.1 lb lc here (step_takes_ticks more one.state some).0
                ∙ sym (steps_tried c more q refl some)
                ∙ ap onwards
                (sym (follows_on a (suc left) p one Cut cut refl ∙ ap (λ (n : ℕ). comes_to a n q) over ∙ steps_none a q))
                ∙ first
            | inr (inr (reason, (stops, uncut))) ↦
                let same = steps_take_ticks.more (suc left) (suc left + more) p.hart larger uncut in
                whole
                ∙ ap (follows b (suc left + more) p) same
                ∙ follows_stop b (suc left + more) p one reason stops
                ∙ ap onwards (sym (follows_stop a (suc left) p one reason stops))
                ∙ first
          ]
    ]

-- a run doesn't change whether the program is running
steps_run : (a left : ℕ) (p : Present) → (slice_steps a left p).state.running ≡ p.running
steps_run zero left p = refl
steps_run (suc a) zero p = refl
steps_run (suc a) (suc left) p =
    let one : Stepped = step (suc left) p.hart in
    let q : Present = after one.end one.state p in
    let on : q.running ≡ p.running = (search (arith, nat_tests)) in
    of_either (λ (r : Halted). r.state.running ≡ p.running) (should_break p) _ _ refl
    (of_either (λ (r : Halted). r.state.running ≡ p.running) (is_none (stop_of one.end)) (slice_steps a (suc left - one.ticks) q)
    (halted q (stop_of one.end)) (steps_run a (suc left - one.ticks) q ∙ on) on)

-- ---- a slice

-- the visible part of an outcome: the machine and the lines
abbrev seen : Outcome → Outcome
seen o = record o { uses = [] }

come_to_the_same : (one other : Outcome) → seen one ≡ seen other → HaveEqualEffects one other
come_to_the_same one other same = (ap (λ (o : Outcome). o.next) same, ap (λ (o : Outcome). o.lines) same)

sliced_running : (quantum : ℕ) (p : Present) → p.running ≡ true
    → sliced quantum (Some p) ≡ slice_ends (ticked quantum p) (ticked quantum p).stop
unfolding sliced
sliced_running quantum p h = rw h refl

sliced_stopped : (quantum : ℕ) (p : Present) → p.running ≡ false → sliced quantum (Some p) ≡ record { next = Some p; lines = []; uses = [] }
unfolding sliced
sliced_stopped quantum p h = rw h refl

sliced_absent : (quantum : ℕ) → sliced quantum None ≡ record { next = None; lines = []; uses = [] }
unfolding sliced
sliced_absent quantum = refl

ends_uses : (run : Halted) (reason : Option Stop) → (slice_ends run reason).uses ≡ run.uses
ends_uses run reason = search (arith, nat_tests)

seen_running : (quantum : ℕ) (p : Present) → p.running ≡ true
    → seen (sliced quantum (Some p)) ≡ seen (slice_ends (comes_to quantum quantum p) (comes_to quantum quantum p).stop)
seen_running quantum p h = ap seen (sliced_running quantum p h) ∙ (search (arith, nat_tests))

ends_stay : (p : Present) (run : Halted) (reason : Option Stop) → StaysAs p (Some run.state) → StaysAs p (slice_ends run reason).next
ends_stay p run reason stays = search (arith, nat_tests)

pub sliced_stays : (quantum : ℕ) (p : Present) → StaysAs p (sliced quantum (Some p)).next
unfolding sliced
sliced_stays quantum p = search (arith, nat_tests, ends_stay, of_either, slice_stays)

pub slice_keeps_configuration : SliceKeepsConfiguration
unfolding sliced
slice_keeps_configuration quantum h is = search (arith, nat_tests, sliced_stays, stays_configured)

-- a slice of 0 ticks changes nothing
sliced_nothing : (p : Private) → sliced 0 p ≡ record { next = p; lines = []; uses = [] }
sliced_nothing None = sliced_absent 0
sliced_nothing (Some p) = search (arith, nat_tests, cases_Bool, sliced_running, sliced_stopped)

-- an outcome followed by a slice of 0 ticks is unchanged
joined_nothing : (first : Outcome) → seen (joined first (sliced 0 first.next)) ≡ seen first
joined_nothing first = search (arith, nat_tests, append-nil, joined, sliced_nothing)

ends_joined : (n : ℕ) (run : Halted) (reason : Option Stop) → run.state.running ≡ true
    → let whole : Halted = goes_on (halted run.state reason) (λ q. comes_to n n q) in
    seen (joined (slice_ends run reason) (sliced n (slice_ends run reason).next)) ≡ seen (slice_ends whole whole.stop)
ends_joined n run reason h = search (arith, nat_tests, joined, seen_running, sliced_stopped)

cuts_add_up : (m n : ℕ) (p : Private) → IsConfigured p → All KeepsWordIfCut (sliced m p).uses
    → seen (joined (sliced m p) (sliced n (sliced m p).next)) ≡ seen (sliced (m + n) p)
cuts_add_up m zero p is keeps = search (arith, nat_tests, joined_nothing)
cuts_add_up m (suc n) None is keeps = search (arith, nat_tests, joined, sliced_absent)
cuts_add_up m (suc n) (Some p) is keeps = elim (cases_Bool p.running) [
  | inl h ↦
      let run : Halted = ticked m p in
      let on : run.state.running ≡ true = steps_run m m p ∙ h in
      ap (λ (first : Outcome). seen (joined first (sliced (suc n) first.next))) (sliced_running m p h)
      ∙ ends_joined (suc n) run run.stop on
      ∙ ap (λ (r : Halted). seen (slice_ends r r.stop))
      (sym (adds m (m + suc n) (suc n) m (suc n) p (omega arith) (omega arith) (omega arith) (omega arith) is
      (All-same KeepsWordIfCut _ _ (sym (search (arith, nat_tests, ends_uses, sliced_running))) keeps)))
      ∙ sym (seen_running (m + suc n) p h)
  | inr h ↦
      ap (λ (first : Outcome). seen (joined first (sliced (suc n) first.next))) (sliced_stopped m p h)
      ∙ ap seen (sliced_stopped (suc n) p h ∙ sym (sliced_stopped (m + suc n) p h))
]

pub cuts_are_invisible : CutsAreInvisible
cuts_are_invisible m n p is keeps = search (arith, nat_tests, come_to_the_same, cuts_add_up, joined)

all_add_up : (k quantum : ℕ) (p : Private) → IsConfigured p → All KeepsWordIfCut (slices k quantum p).uses
    → seen (slices k quantum p) ≡ seen (sliced (k * quantum) p)
unfolding slices
all_add_up zero quantum p is keeps =
    ap seen (sym (sliced_nothing p)) ∙ ap (λ (q : ℕ). seen (sliced q p)) (omega arith)
all_add_up (suc k) quantum p is keeps =
    let rest : Outcome = slices k quantum (sliced quantum p).next in
    ap (λ (o : Outcome). seen (joined (sliced quantum p) o))
    (all_add_up k quantum (sliced quantum p).next (slice_keeps_configuration quantum p is) (All-right KeepsWordIfCut (sliced quantum p).uses rest.uses keeps))
    ∙ cuts_add_up quantum (k * quantum) p is (All-left KeepsWordIfCut (sliced quantum p).uses rest.uses keeps)
    ∙ ap (λ (q : ℕ). seen (sliced q p)) (omega arith)

pub slices_add_up : SlicesAddUp
slices_add_up k quantum p is keeps = search (arith, nat_tests, all_add_up, come_to_the_same)

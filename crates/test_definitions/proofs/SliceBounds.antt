-- Bounds of the work of slices and of the operator's commands.
use Rattle.std.proofs.Common.{◌≡◌, ◌∙◌, ℕ, zero, suc, ◌+◌, ◌-◌, ◌≤◌, ◌&&◌, Bool, true, false, not, List, [], ◌∷◌, Option, Some, None, Ok, Err, refl, sym, subst, arith}
use Rattle.std.specs.Prelude.{is_none, if◌then◌else◌}
use Rattle.std.specs.Option.{option_map_or}
use Rattle.std.proofs.lemmas.Bool.{leb-true, and_parts, false≢true}
use Rattle.std.proofs.lemmas.Bool.Decides.{nat_tests}
use Rattle.std.proofs.lemmas.Nat.{mul-le}
use Rattle.rv_model.specs.declared.commands.operator.OperatorCommand.{OperatorCommand}
use Rattle.rv_model.specs.declared.commands.operator.OperatorCommand.TheVariants.{Slices, Run}
use Rattle.rv_model.specs.declared.commands.refusal.Refusal.TheVariants.{UnknownCommand}
use Rattle.rv_model.specs.declared.step.step_end.Stop.{Stop}
use Rattle.rv_model.specs.declared.commands.command.Cmd.{Cmd}
use Rattle.rv_model.specs.declared.commands.command.Cmd.TheVariants.{Breakpoints, Entering, Memory, Programs, Registers, Running}
use Rattle.rv_model.specs.declared.commands.running.RunningCommand.{RunningCommand}
use Rattle.rv_model.specs.declared.commands.running.RunningCommand.TheVariants.{Step}
use Rattle.rv_model.specs.commands.Breakpoints.{breakpoint_command, breakpoints_named}
use Rattle.rv_model.specs.commands.Commands.{Parsed, command_outcome, commanded, named, of_absent, of_present, parse}
use Rattle.rv_model.specs.commands.Entering.{entering, entering_absent, entering_named}
use Rattle.rv_model.specs.commands.Memory.{memory_command, memory_named}
use Rattle.rv_model.specs.commands.Programs.{program_command, programs_named}
use Rattle.rv_model.specs.commands.Registers.{register_command, registers_named}
use Rattle.rv_model.specs.commands.Running.{running_command, running_named}
use Rattle.rv_model.specs.commands.Arguments.{number_between, within}
use Rattle.rv_model.specs.commands.Operator.{OperatorParsed, operator_named, operator_parse}
use Rattle.rv_model.specs.commands.Reading.{done, in_group, one_argument}
use Rattle.rv_model.specs.machine.Grants.{granted, grants_of, next_running, runs, slice_of}
use Rattle.rv_model.specs.machine.Setup.{Image, Setup}
use Rattle.rv_model.specs.machine.UserMachine.{after, at_breakpoint, halted, slice_steps, steps, stop_of, ticked, Halted, Present, Private, Outcome, Tries, Use}
use Rattle.rv_model.specs.machine.World.{World, UserEvent, after_one, event, outcome_of, slice_ends, sliced, user_machine}
use Rattle.rv_model.specs.step.Hart.{HartState, Stepped}
use Rattle.rv_model.specs.step.Step.{step}
use Rattle.rv_model.proofs.Choices.{of_either, of_option, of_test}
use Rattle.rv_model.proofs.step_lemmas.StepTicks.{step_takes_ticks}
use Rattle.test_definitions.specs.SliceBounds.{AreAtMost, GrantsAreBounded, LinesAreBounded, OnlyStopsEndSlices, OperatorLinesAreBounded, SlicesAreAThousand, SlicesTakeTheirTicks, ticks_of, ticks_of_events, tries_of, tries_of_events}

-- ---- the instructions of a slice

abbrev IsWithin : ℕ → List Use → Type 0
IsWithin left uses = (tries_of uses ≤ ticks_of uses) × (ticks_of uses ≤ left)

nothing : (left : ℕ) → IsWithin left []
nothing left = (omega arith, omega arith)

one_more : (left : ℕ) (hart : HartState) (uses : List Use) → 1 ≤ left → IsWithin (left - (step left hart).ticks) uses
    → IsWithin left (Tries left hart ∷ uses)
one_more left hart uses some rest =
    let ticks = step_takes_ticks left hart some in
    (omega (arith, ticks.0, rest.0), omega (arith, ticks.1, rest.1))

steps_within : (n left : ℕ) (p : Present) → IsWithin left (slice_steps n left p).uses
steps_within zero left p = nothing left
steps_within (suc n) zero p = nothing zero
steps_within (suc n) (suc left) p =
    let one : Stepped = step (suc left) p.hart in
    let q : Present = after one.end one.state p in
    let later : ℕ = suc left - one.ticks in
    let rest : Halted = if is_none (stop_of one.end) then slice_steps n later q else halted q (stop_of one.end) in
    of_either (λ (r : Halted). IsWithin (suc left) r.uses) (not p.fresh && at_breakpoint p) _ _ (nothing (suc left))
    (one_more (suc left) p.hart rest.uses (omega arith)
    (of_either (λ (r : Halted). IsWithin later r.uses) (is_none (stop_of one.end)) (slice_steps n later q) (halted q (stop_of one.end))
    (steps_within n later q) (nothing later)))

ends_within : (quantum : ℕ) (run : Halted) (reason : Option Stop) → IsWithin quantum run.uses
    → IsWithin quantum (slice_ends run reason).uses
ends_within quantum run None h = h
ends_within quantum run (Some reason) h = h

pub slices_take_their_ticks : SlicesTakeTheirTicks
unfolding sliced
slices_take_their_ticks quantum None = nothing quantum
slices_take_their_ticks quantum (Some p) =
    let run : Halted = ticked quantum p in
    of_either (λ (o : Outcome). IsWithin quantum o.uses) p.running _ _
    (ends_within quantum run run.stop (steps_within quantum quantum p)) (nothing quantum)

-- ---- slices that don't stop the program

-- a run without a stop takes all ticks
abbrev TakesAll : ℕ → Halted → Type 0
TakesAll left run = run.stop ≡ None → ticks_of run.uses ≡ left

steps_take_all : (n left : ℕ) (p : Present) → left ≤ n → TakesAll left (slice_steps n left p)
steps_take_all zero left p h = λ on. omega (arith, h)
steps_take_all (suc n) zero p h = λ on. refl
steps_take_all (suc n) (suc left) p h =
    let one : Stepped = step (suc left) p.hart in
    let q : Present = after one.end one.state p in
    let later : ℕ = suc left - one.ticks in
    let ticks = step_takes_ticks (suc left) p.hart (omega arith) in
    of_either (TakesAll (suc left)) (not p.fresh && at_breakpoint p) _ _ (λ on. cc)
    (of_test (λ (r : Halted). r.stop ≡ None → one.ticks + ticks_of r.uses ≡ suc left) (is_none (stop_of one.end)) (slice_steps n later q)
    (halted q (stop_of one.end))
    (λ on e. omega (arith, ticks.1, steps_take_all n later q (omega (arith, ticks.0, h)) e))
    (λ stops on. cc))

ends_take_all : (quantum : ℕ) (run : Halted) (reason : Option Stop) → run.stop ≡ reason → TakesAll quantum run
    → (slice_ends run reason).lines ≡ [] → ticks_of (slice_ends run reason).uses ≡ quantum
ends_take_all quantum run None e h on = h e
ends_take_all quantum run (Some reason) e h on = cc

pub only_stops_end_slices : OnlyStopsEndSlices
unfolding sliced
only_stops_end_slices quantum p running =
    let run : Halted = ticked quantum p in
    of_test (λ (o : Outcome). o.lines ≡ [] → ticks_of o.uses ≡ quantum) p.running _ _
    (λ runs. ends_take_all quantum run run.stop refl (steps_take_all quantum quantum p (omega arith)))
    (λ stopped. absurd (false≢true (sym stopped ∙ running)))

-- ---- the slices of `slices N`

slice_within : (setup : Setup) (w : World) (u : ℕ) (turn : Bool) → IsWithin setup.quantum (outcome_of setup w (slice_of u turn)).uses
unfolding event
slice_within setup w u turn = slices_take_their_ticks setup.quantum (user_machine u w)

pub grants_are_bounded : GrantsAreBounded
unfolding granted
grants_are_bounded setup zero w =
    record { count = omega arith; fewer = λ less. absurd (omega (arith, less)); tries = omega arith; ticks = omega arith }
grants_are_bounded setup (suc n) w =
    let turn : ℕ → UserEvent = λ u. slice_of u true in
    of_option (next_running w)
    (λ o. AreAtMost (suc n) setup w (option_map_or (λ u. turn u ∷ granted setup n (after_one setup w (turn u))) o []))
    (λ e. record { count = omega arith; fewer = λ less. e; tries = omega arith; ticks = omega arith })
    (λ u e.
    let first = slice_within setup w u true in
    let rest = grants_are_bounded setup n (after_one setup w (turn u)) in
    record {
      count = omega (arith, rest.count);
      fewer = λ less. rest.fewer (omega (arith, less));
      tries = omega (arith, rest.tries, first.0);
      ticks = omega (arith, rest.ticks, first.1);
    })

-- ---- the number of slices

abbrev HasNumber : OperatorCommand → Type 0
HasNumber (Slices n) = (1 ≤ n) × (n ≤ 1000)
HasNumber _ = Unit {0}

abbrev HasNumberIfAny : Option OperatorCommand → Type 0
HasNumberIfAny None = Unit {0}
HasNumberIfAny (Some c) = HasNumber c

abbrev ParsedHasNumber : OperatorParsed → Type 0
ParsedHasNumber (Err reason) = Unit {0}
ParsedHasNumber (Ok c) = HasNumber c

done_numbered : (c : OperatorCommand) (ws : List (List ℕ)) → HasNumber c → HasNumberIfAny (done c ws)
done_numbered c ws h = search (arith, nat_tests)

slices_numbered : (ws : List (List ℕ)) → HasNumberIfAny (one_argument Slices (number_between 1 1000) ws)
unfolding one_argument
slices_numbered ws = search (arith, nat_tests, and_parts, done, done_numbered, leb-true, of_option, of_test, within)

run_numbered : (ws : List (List ℕ)) → HasNumberIfAny (one_argument Run (number_between 1 8) ws)
unfolding one_argument
run_numbered ws = search (arith, nat_tests, done, done_numbered, of_option)

abbrev NamedHasNumber : Option (Option OperatorCommand) → Type 0
NamedHasNumber o = ParsedHasNumber (in_group (λ command. command) o (Err UnknownCommand))

arguments_numbered : (o : Option OperatorCommand) → HasNumberIfAny o → NamedHasNumber (Some o)
arguments_numbered o h = search (arith, nat_tests)

named_numbered : (name : List ℕ) (args : List (List ℕ)) → NamedHasNumber (operator_named name args)
named_numbered name args = search (arith, nat_tests, arguments_numbered, done, done_numbered, of_either, run_numbered, slices_numbered)

parsed_numbered : (line : List ℕ) → ParsedHasNumber (operator_parse line)
unfolding operator_parse
parsed_numbered line = search (arith, nat_tests, named_numbered)

pub slices_are_a_thousand : SlicesAreAThousand
slices_are_a_thousand line n e = subst ParsedHasNumber e (parsed_numbered line)

-- ---- the operator's commands

abbrev AreWithin : Setup → World → List UserEvent → Type 0
AreWithin setup w hs = (tries_of_events setup w hs ≤ ticks_of_events setup w hs) × (ticks_of_events setup w hs ≤ 1000000)

grants_within : (setup : Setup) (w : World) (r : OperatorParsed) → ParsedHasNumber r → setup.quantum ≤ 1000
    → AreWithin setup w (grants_of setup w r)
grants_within setup w (Err reason) numbered h = (omega arith, omega arith)
grants_within setup w (Ok (Slices n)) numbered h =
    let all = grants_are_bounded setup n w in
    (all.tries, omega (arith, all.ticks, mul-le n setup.quantum 1000 1000 numbered.1 h))
grants_within setup w (Ok (Run u)) numbered h =
    let one = slice_within setup w u false in
    of_either (AreWithin setup w) (runs (user_machine u w)) (slice_of u false ∷ []) []
    (omega (arith, one.0), omega (arith, one.1, h)) (omega arith, omega arith)
grants_within setup w (Ok _) numbered h = (omega arith, omega arith)

operator_within : (setup : Setup) (w : World) (line : List ℕ) → setup.quantum ≤ 1000
    → AreWithin setup w (grants_of setup w (operator_parse line))
operator_within setup w line h = grants_within setup w (operator_parse line) (parsed_numbered line) h

pub operator_lines_are_bounded : OperatorLinesAreBounded
operator_lines_are_bounded setup w line h = (operator_within setup w line h).1

-- ---- a user's commands

steps_tried : (n : ℕ) (skip_once : Bool) (p : Present) → tries_of (steps n skip_once p).uses ≤ n
steps_tried zero skip_once p = omega arith
steps_tried (suc n) skip_once p =
    let one : Stepped = step 256 p.hart in
    let q : Present = after one.end one.state p in
    let rest : Halted = if is_none (stop_of one.end) then steps n false q else halted q (stop_of one.end) in
    let later : tries_of rest.uses ≤ n =
    of_either (λ (r : Halted). tries_of r.uses ≤ n) (is_none (stop_of one.end)) (steps n false q) (halted q (stop_of one.end))
    (steps_tried n false q) (omega arith) in
    of_either (λ (r : Halted). tries_of r.uses ≤ suc n) (not skip_once && at_breakpoint p) _ _ (omega arith) (omega (arith, later))

-- a command that tries at most 256 instructions
abbrev IsShort : Cmd → Type 0
IsShort (Running (Step n)) = n ≤ 256
IsShort _ = Unit {0}

abbrev ParsedIsShort : Parsed → Type 0
ParsedIsShort (Err reason) = Unit {0}
ParsedIsShort (Ok c) = IsShort c

abbrev RunningIsShort : Option RunningCommand → Type 0
RunningIsShort None = Unit {0}
RunningIsShort (Some c) = IsShort (Running c)

done_short : (c : RunningCommand) (ws : List (List ℕ)) → IsShort (Running c) → RunningIsShort (done c ws)
done_short c ws h = search (arith, nat_tests)

step_short : (ws : List (List ℕ)) → RunningIsShort (one_argument Step (number_between 1 256) ws)
unfolding one_argument
step_short ws = search (arith, nat_tests, and_parts, done, done_short, leb-true, of_option, of_test, within)

abbrev NamedIsShort : Option (Option RunningCommand) → Type 0
NamedIsShort None = Unit {0}
NamedIsShort (Some o) = RunningIsShort o

named_short : (name : List ℕ) (args : List (List ℕ)) → NamedIsShort (running_named name args)
named_short name args = search (arith, nat_tests, done, done_short, of_either, step_short)

running_short : (o : Option (Option RunningCommand)) → NamedIsShort o → ParsedIsShort (in_group Running o (Err UnknownCommand))
running_short o h = search (arith, nat_tests)

group_short : {A : Type 0} (group : A → Cmd) (o : Option (Option A)) (others : Parsed) → ((c : A) → IsShort (group c)) → ParsedIsShort others
    → ParsedIsShort (in_group group o others)
group_short group None others each h = h
group_short group (Some None) others each h = tt
group_short group (Some (Some c)) others each h = each c

command_short : (name : List ℕ) (args : List (List ℕ)) (text : List ℕ) → ParsedIsShort (named name args text)
unfolding named
command_short name args text =
    group_short Entering (entering_named name args) _ (λ c. tt)
    (group_short Memory (memory_named name args) _ (λ c. tt)
    (group_short Registers (registers_named name args) _ (λ c. tt)
    (group_short Programs (programs_named name args text) _ (λ c. tt)
    (group_short Breakpoints (breakpoints_named name args) _ (λ c. tt)
    (running_short (running_named name args) (named_short name args))))))

parsed_short : (line : List ℕ) → ParsedIsShort (parse line)
unfolding parse
parsed_short line = search (arith, nat_tests, command_short)

-- ---- the outcome of a user's command

abbrev TriesFew : Outcome → Type 0
TriesFew o = tries_of o.uses ≤ 256

present_few : (images : List Image) (c : Cmd) (p : Present) → IsShort c → TriesFew (of_present images c p)
unfolding of_present entering memory_command register_command program_command breakpoint_command running_command
present_few images (Running (Step n)) p short = omega (arith, steps_tried n true p, short)
present_few images c p short = search (arith, nat_tests, of_either)

commanded_few : (images : List Image) (p : Private) (r : Parsed) → ParsedIsShort r → TriesFew (commanded images p r)
unfolding command_outcome of_absent entering_absent
commanded_few images p r short = search (arith, nat_tests, of_either, present_few)

pub lines_are_bounded : LinesAreBounded
unfolding event
lines_are_bounded setup w line h = search (arith, nat_tests, commanded_few, operator_within, parsed_short)

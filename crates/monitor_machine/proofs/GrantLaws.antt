-- Laws of consecutive slices that are granted.
use Rattle.std.proofs.Common.{◌≡◌, ℕ, zero, suc, ◌+◌, ◌*◌, ◌≤◌, ◌<◌, Bool, true, false, cond, List, [], ◌∷◌, ◌++◌, length, append_assoc, append-nil, get_or, set, Option, Some, None, refl, ap, ◌∙◌, sym, arith}
use Rattle.std.specs.Prelude.{◌&&◌, map, if◌then◌else◌}
use Rattle.std.proofs.lemmas.List.{ext_get_or, get_or-map, length-map}
use Rattle.std.specs.Option.{option_map_or}
use Rattle.rv_model.specs.declared.machine.run_state.RunState.TheVariants.{Absent, Stopped, Running}
use Rattle.rv_model.specs.machine.Grants.{granted, next_running, runs, slice_of, run_state}
use Rattle.rv_model.specs.machine.World.{Private, Outcome, event, slice_ends, sliced}
use Rattle.rv_model.specs.machine.UserMachine.{Halted, ticked}
use Rattle.rv_model.specs.machine.Script.{World, UserEvent, with_unit, after_one, after_events, printed_by_events, user_machine}
use Rattle.rv_model.specs.machine.Setup.{Setup, user_count}
use Rattle.rv_model.specs.declared.vector.state.VState.{VState}
use Rattle.rv_model.specs.memory.Memory.{Memory}
use Rattle.lazy_context.specs.declared.unit.Unit.{Unit}
use Rattle.rv_model.specs.text.Lines.{text}
use Rattle.rv_model.proofs.machine_lemmas.Headline.{length-after_events}
use Rattle.monitor_machine.specs.declared.context.Context.{Context}
use Rattle.monitor_machine.specs.MachineState.{after_outcome, after_slice}
use Rattle.monitor_machine.specs.Parts.{Addresses, IsWhole, context_run_state, is_running, parts_of, present, private_of, states_of}
use Rattle.monitor_machine.specs.StopLineBounds.{stop_line_bound, stop_lines_bound}
use Rattle.monitor_machine.proofs.PartLaws.{eight_states, part_put_back}

stop_room_is_small : (p : Private) → stop_line_bound p ≤ 80
stop_room_is_small p = either (runs p)
  where
    either : (b : Bool) → cond b 80 0 ≤ 80
    either true = omega arith
    either false = omega arith

stops_room_by_count : (ps : List Private) → stop_lines_bound ps ≤ 80 * length ps
stops_room_by_count [] = omega arith
stops_room_by_count (p ∷ ps) = omega (arith, stop_room_is_small p, stops_room_by_count ps)

-- the stop lines of all users fit into a reply
pub stops_room_is_small : (ps : List Private) → length ps ≡ user_count → stop_lines_bound ps ≤ 640
stops_room_is_small ps eight = omega (arith, eight, stops_room_by_count ps)

-- the room after another machine replaces a user's
pub stops_room_set : (ps : List Private) (i : ℕ) (q : Private) → i < length ps
    → stop_lines_bound (set ps i q) + stop_line_bound (get_or ps i None) ≡ stop_lines_bound ps + stop_line_bound q
stops_room_set [] i q lt = absurd (omega (arith, lt))
stops_room_set (p ∷ ps) zero q lt = omega arith
stops_room_set (p ∷ ps) (suc i) q lt = omega (arith, stops_room_set ps i q (omega (arith, lt)))

-- the room for a user's stop line is a part of that for all
pub stop_room_within : (ps : List Private) (i : ℕ) → i < length ps → stop_line_bound (get_or ps i None) ≤ stop_lines_bound ps
stop_room_within [] i lt = absurd (omega (arith, lt))
stop_room_within (p ∷ ps) zero lt = omega arith
stop_room_within (p ∷ ps) (suc i) lt = omega (arith, stop_room_within ps i (omega (arith, lt)))

-- the room that remains for all users after a change of one user's machine and lines within that user's room
pub room_left : (old new before after part next rest parts all : ℕ) → new + after ≤ old + before → after ≡ next → before ≡ part → rest ≡ parts → parts + part ≡ all + next → new + rest ≤ old + all
room_left old new before after part next rest parts all h is_next is_part is_parts set = omega (arith, h, is_next, is_part, is_parts, set)

-- ---- the state of programs, from the contexts

-- a list whose elements are the images of another list's elements under a function
pub filled : {A B : Type 0} (f : A → B) (xs : List A) (ys : List B) (d : A) (e : B) → length ys ≡ length xs → ((k : ℕ) → k < length xs → get_or ys k e ≡ f (get_or xs k d)) → ys ≡ map f xs
filled f xs ys d e same each =
    ext_get_or e ys (map f xs) (same ∙ sym (length-map xs f)) (λ k lt. each k (omega (arith, lt, same)) ∙ sym (get_or-map f xs k d e (omega (arith, lt, same))))

runs_as : (c : Context) (t : Addresses) (v : VState) (m : Memory) → runs (private_of c t v m) ≡ is_running c
runs_as c t v m = entered c.entered
  where
    entered : (b : Bool) → runs (if b then Some (present c t v m) else None) ≡ (b && c.running)
    entered true = refl
    entered false = refl

run_state_as : (c : Context) (t : Addresses) (v : VState) (m : Memory) → run_state (private_of c t v m) ≡ context_run_state c
run_state_as c t v m = entered c.entered
  where
    entered : (b : Bool) → run_state (if b then Some (present c t v m) else None) ≡ (if b then (if c.running then Running else Stopped) else Absent)
    entered true = refl
    entered false = refl

-- a property of each context is a property of the corresponding private machine
of_parts : {B : Type 0} (f : Private → B) (g : Context → B) → ((c : Context) (t : Addresses) (v : VState) (m : Memory) → f (private_of c t v m) ≡ g c)
    → (cs : List Context) (ts : List Addresses) (vs : List VState) (ms : List Memory) → length cs ≡ length ts → length ts ≡ length vs → length vs ≡ length ms
    → map f (parts_of cs ts vs ms) ≡ map g cs
of_parts f g same [] ts vs ms h k j = refl
of_parts f g same (c ∷ cs) [] vs ms h k j = absurd (omega (arith, h))
of_parts f g same (c ∷ cs) (t ∷ ts) [] ms h k j = absurd (omega (arith, k))
of_parts f g same (c ∷ cs) (t ∷ ts) (v ∷ vs) [] h k j = absurd (omega (arith, j))
of_parts {B} f g same (c ∷ cs) (t ∷ ts) (v ∷ vs) (m ∷ ms) h k j =
    ap (λ (b : B). b ∷ map f (parts_of cs ts vs ms)) (same c t v m)
    ∙ ap (λ (bs : List B). g c ∷ bs) (of_parts f g same cs ts vs ms (omega (arith, h)) (omega (arith, k)) (omega (arith, j)))

of_whole : {B : Type 0} (f : Private → B) (g : Context → B) → ((c : Context) (t : Addresses) (v : VState) (m : Memory) → f (private_of c t v m) ≡ g c)
    → (cs : List Context) (ts : List Addresses) (unit : Unit) (ms : List Memory) → IsWhole cs ts unit ms → map f (parts_of cs ts (states_of unit) ms) ≡ map g cs
of_whole f g same cs ts unit ms whole =
    of_parts f g same cs ts (states_of unit) ms (whole.contexts ∙ sym whole.traces) (whole.traces ∙ sym (eight_states unit)) (eight_states unit ∙ sym whole.memories)

pub runs_of_parts : (cs : List Context) (ts : List Addresses) (unit : Unit) (ms : List Memory) → IsWhole cs ts unit ms → map runs (parts_of cs ts (states_of unit) ms) ≡ map is_running cs
runs_of_parts cs ts unit ms whole = of_whole runs is_running runs_as cs ts unit ms whole

pub run_states_of_parts : (cs : List Context) (ts : List Addresses) (unit : Unit) (ms : List Memory) → IsWhole cs ts unit ms → map run_state (parts_of cs ts (states_of unit) ms) ≡ map context_run_state cs
run_states_of_parts cs ts unit ms whole = of_whole run_state context_run_state run_state_as cs ts unit ms whole

-- ---- slices

-- a program that isn't running has no slice
pub not_sliced : (quantum : ℕ) (p : Private) → runs p ≡ false → sliced quantum p ≡ record { next = p; lines = []; uses = [] }
unfolding sliced
not_sliced quantum None stopped = refl
not_sliced quantum (Some p) stopped =
    let run : Halted = ticked quantum p in
    ap (λ (b : Bool). if b then slice_ends run run.stop else record { next = Some p; lines = []; uses = [] }) stopped

-- so the world is unchanged
pub nothing_sliced : (quantum u : ℕ) (w : World) → runs (user_machine u w) ≡ false → after_slice quantum u w ≡ w
nothing_sliced quantum u w stopped =
    ap (λ (o : Outcome). after_outcome u o w) (not_sliced quantum (user_machine u w) stopped) ∙ ap (with_unit w.unit) (part_put_back u w)

-- one slice in turn, and then the remaining slices
pub granted_on : (s : Setup) (n u : ℕ) (w : World) → next_running w ≡ Some u → granted s (suc n) w ≡ slice_of u true ∷ granted s n (after_one s w (slice_of u true))
unfolding granted
granted_on s n u w turn = ap (λ (o : Option ℕ). option_map_or (λ u. slice_of u true ∷ granted s n (after_one s w (slice_of u true))) o []) turn

-- no program is running
pub granted_to_nobody : (s : Setup) (n : ℕ) (w : World) → next_running w ≡ None → granted s n w ≡ []
unfolding granted
granted_to_nobody s zero w turn = refl
granted_to_nobody s (suc n) w turn = ap (λ (o : Option ℕ). option_map_or (λ u. slice_of u true ∷ granted s n (after_one s w (slice_of u true))) o []) turn

-- the world after one slice in turn
pub after_one_grant : (s : Setup) (u : ℕ) (w turned next : World) → turned ≡ record w { cursor = u } → next ≡ after_slice s.quantum u turned → after_one s w (slice_of u true) ≡ next
unfolding event
after_one_grant s u w turned next turn moved = sym (moved ∙ ap (λ (v : World). after_slice s.quantum u v) turn)

-- the output of one slice in turn, and then of the others
pub printed_by_grant : (s : Setup) (u : ℕ) (w turned next : World) (hs : List UserEvent) → turned ≡ record w { cursor = u } → next ≡ after_slice s.quantum u turned
    → printed_by_events s w (slice_of u true ∷ hs) ≡ text (48 + u) (sliced s.quantum (user_machine u turned)).lines ++ printed_by_events s next hs
unfolding event
printed_by_grant s u w turned next hs turn moved =
    ap (λ (v : World). text (48 + u) (sliced s.quantum (user_machine u w)).lines ++ printed_by_events s v hs) (after_one_grant s u w turned next turn moved)
    ∙ ap (λ (v : World). text (48 + u) (sliced s.quantum (user_machine u v)).lines ++ printed_by_events s next hs) (sym turn)

-- the world after the remaining slices, if one more is granted
pub world_granted_on : (s : Setup) (n u : ℕ) (w turned next : World) → next_running w ≡ Some u → turned ≡ record w { cursor = u } → next ≡ after_slice s.quantum u turned
    → after_events s w (granted s (suc n) w) ≡ after_events s next (granted s n next)
world_granted_on s n u w turned next turns turn moved =
    ap (after_events s w) (granted_on s n u w turns)
    ∙ ap (λ (v : World). after_events s v (granted s n v)) (after_one_grant s u w turned next turn moved)

pub printed_granted_on : (s : Setup) (n u : ℕ) (w turned next : World) (before after : List ℕ) → next_running w ≡ Some u → turned ≡ record w { cursor = u } → next ≡ after_slice s.quantum u turned
    → after ≡ before ++ text (48 + u) (sliced s.quantum (user_machine u turned)).lines
    → before ++ printed_by_events s w (granted s (suc n) w) ≡ after ++ printed_by_events s next (granted s n next)
printed_granted_on s n u w turned next before after turns turn moved more =
    let lines = text (48 + u) (sliced s.quantum (user_machine u turned)).lines in
    ap (λ (hs : List UserEvent). before ++ printed_by_events s w hs) (granted_on s n u w turns)
    ∙ ap (λ (v : World). before ++ printed_by_events s w (slice_of u true ∷ granted s n v)) (after_one_grant s u w turned next turn moved)
    ∙ ap (λ (bytes : List ℕ). before ++ bytes) (printed_by_grant s u w turned next (granted s n next) turn moved)
    ∙ sym (append_assoc before lines (printed_by_events s next (granted s n next)))
    ∙ ap (λ (bytes : List ℕ). bytes ++ printed_by_events s next (granted s n next)) (sym more)

pub count_granted_on : (s : Setup) (n u : ℕ) (w turned next : World) → next_running w ≡ Some u → turned ≡ record w { cursor = u } → next ≡ after_slice s.quantum u turned
    → length (granted s (suc n) w) ≡ suc (length (granted s n next))
count_granted_on s n u w turned next turns turn moved =
    ap length (granted_on s n u w turns)
    ∙ ap (λ (v : World). suc (length (granted s n v))) (after_one_grant s u w turned next turn moved)

-- no slice remains
pub none_granted : (s : Setup) (w : World) → granted s 0 w ≡ []
unfolding granted
none_granted s w = refl

-- ---- one slice of a given user

abbrev ran_lines : Bool → ℕ → List UserEvent
ran_lines ran u = if ran then slice_of u false ∷ [] else []

-- the world after a slice that is granted if the user's program is running
pub one_run_world : (s : Setup) (u : ℕ) (w next : World) → next ≡ after_slice s.quantum u w → after_events s w (if runs (user_machine u w) then slice_of u false ∷ [] else []) ≡ next
unfolding event
one_run_world s u w next moved = by_case (runs (user_machine u w)) refl
  where
    by_case : (b : Bool) → runs (user_machine u w) ≡ b → after_events s w (ran_lines b u) ≡ next
    by_case true ran = sym moved
    by_case false ran = sym (moved ∙ nothing_sliced s.quantum u w ran)

pub one_run_printed : (s : Setup) (u : ℕ) (w : World) → printed_by_events s w (if runs (user_machine u w) then slice_of u false ∷ [] else []) ≡ text (48 + u) (sliced s.quantum (user_machine u w)).lines
unfolding event
one_run_printed s u w = by_case (runs (user_machine u w)) refl
  where
    by_case : (b : Bool) → runs (user_machine u w) ≡ b → printed_by_events s w (ran_lines b u) ≡ text (48 + u) (sliced s.quantum (user_machine u w)).lines
    by_case true ran = append-nil (text (48 + u) (sliced s.quantum (user_machine u w)).lines)
    by_case false ran = sym (ap (λ (o : Outcome). text (48 + u) o.lines) (not_sliced s.quantum (user_machine u w) ran))

pub one_run_count : (u : ℕ) (b : Bool) → length (if b then slice_of u false ∷ [] else []) ≡ (if b then 1 else 0)
one_run_count u true = refl
one_run_count u false = refl

-- after any events, there is still a machine for each user
pub eight_stay : (s : Setup) (w next : World) (es : List UserEvent) → next ≡ after_events s w es → length w.parts ≡ 8 → length next.parts ≡ 8
eight_stay s w next es moved eight = ap (λ (v : World). length v.parts) moved ∙ length-after_events s w es ∙ eight

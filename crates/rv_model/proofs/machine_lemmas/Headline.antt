-- Each user's lines are those of the user's machine run alone.
use Rattle.std.proofs.Common.{◌≡◌, ◌≢◌, ℕ, ◌+◌, ◌-◌, ◌≤◌, List, [], ◌∷◌, ◌++◌, length, length-set, get_or-set_same, get_or-set_other, Bool, true, false, refl, ap, ◌∙◌, sym, append_assoc, arith, eqb, cond, None}
use Rattle.std.proofs.lemmas.List.{get_or-replicate}
use Rattle.std.specs.Prelude.{if◌then◌else◌, nat_lt}
use Rattle.std.proofs.lemmas.Bool.{cases_eq, leb-true, and_parts}
use Rattle.std.proofs.lemmas.Bool.Decides.{nat_tests}
use Rattle.rv_model.specs.text.Lines.{pieces, text}
use Rattle.rv_model.proofs.text_lemmas.Newlines.{AreLines}
use Rattle.rv_model.specs.machine.Setup.{Setup}
use Rattle.rv_model.specs.machine.World.{Private, Event, event, solo_from, end_of}
use Rattle.rv_model.specs.machine.Script.{World, new_world, with_unit, Kind, Long, prefixed, kind_of, events_of, common, UserEvent, outcome_of, unit_after, after_one, after_events, printed_by_events, printed_by_line, after_all, printed_by_lines, schedule, whole_from, after_script, mine, own_from, own, lines, user_machine, with_user_machine, world_after}
use Rattle.rv_model.specs.machine.Laws.{EachUserAlone, EachNewUserAlone, EachUserEndsAlone, OthersChangeNothing, EqualPartsAnswerAlike, MachinesStayEight}
use Rattle.rv_model.proofs.text_lemmas.Lines.{lines_text}
use Rattle.rv_model.proofs.command_lemmas.Operator.{parsed_names_user}
use Rattle.rv_model.proofs.command_lemmas.Printing.{one_line}
use Rattle.rv_model.proofs.machine_lemmas.EventLines.{event_lines}
use Rattle.rv_model.proofs.machine_lemmas.Grants.{AreUsers, grants_to_users, no_newline_in_operator_line}
use Rattle.rv_model.proofs.Choices.{of_bool, of_either}

pub no_newline : (v : ℕ) → eqb (48 + v) 10 ≡ false
no_newline v = grind (arith, nat_tests)

pub same_number : (u : ℕ) → eqb u u ≡ true
same_number u = grind (arith, nat_tests)

pub other_number : (u v : ℕ) → v ≢ u → eqb v u ≡ false
other_number u v h = grind (arith, nat_tests)

pub part_same : (u : ℕ) (p : Private) (w : World) → 1 ≤ u → u ≤ length w.parts → user_machine u (with_user_machine u p w) ≡ p
part_same u p w low high = get_or-set_same w.parts (u - 1) p None (omega arith)

pub part_other : (u v : ℕ) (p : Private) (w : World) → 1 ≤ u → 1 ≤ v → v ≢ u → user_machine u (with_user_machine v p w) ≡ user_machine u w
part_other u v p w low low' ne = get_or-set_other w.parts (v - 1) (u - 1) p None (λ e. ne (omega (arith, e)))

-- a turn changes no user's machine
pub parts_after_turn : (turn : Bool) (u : ℕ) (w : World) → (if turn then record w { cursor = u } else w).parts ≡ w.parts
parts_after_turn turn u w = search (arith, nat_tests)

pub part_after_one : (s : Setup) (u : ℕ) (w : World) (h : UserEvent) → user_machine u (after_one s w h) ≡ user_machine u (with_user_machine h.user (outcome_of s w h).next w)
part_after_one s u w h = search (arith, nat_tests, parts_after_turn)

pub length-after_one : (s : Setup) (w : World) (h : UserEvent) → length (after_one s w h).parts ≡ length w.parts
length-after_one s w h =
    ap length (parts_after_turn h.turn h.user (with_unit (unit_after s w h) (with_user_machine h.user (outcome_of s w h).next w)))
    ∙ length-set w.parts (h.user - 1) (outcome_of s w h).next

-- the lines of one event, before those of the other events
abbrev Splits : Setup → ℕ → List (List ℕ) → World → Event → List UserEvent → ℕ → Type 0
Splits s u others w e es v = cond (eqb v u) (event s (user_machine v w) e).lines [] ++ (solo_from s (user_machine u (with_user_machine v (event s (user_machine v w) e).next w)) (mine u es) ++ others) ≡ solo_from s (user_machine u w) (cond (eqb v u) (e ∷ mine u es) (mine u es)) ++ others

splits_same : (s : Setup) (u : ℕ) (others : List (List ℕ)) (w : World) (e : Event) (es : List UserEvent) → 1 ≤ u → u ≤ length w.parts → Splits s u others w e es u
splits_same s u others w e es low high =
    let p : Private = (event s (user_machine u w) e).next in
    rw (same_number u)
    (ap (λ (q : Private). (event s (user_machine u w) e).lines ++ (solo_from s q (mine u es) ++ others)) (part_same u p w low high)
    ∙ sym (append_assoc (event s (user_machine u w) e).lines (solo_from s p (mine u es)) others))

splits_other : (s : Setup) (u : ℕ) (others : List (List ℕ)) (w : World) (e : Event) (es : List UserEvent) (v : ℕ) → 1 ≤ u → 1 ≤ v → v ≢ u → Splits s u others w e es v
splits_other s u others w e es v low low' ne = search (other_number, part_other)

splits : (s : Setup) (u : ℕ) (others : List (List ℕ)) (w : World) (e : Event) (es : List UserEvent) (v : ℕ) → 1 ≤ u → u ≤ length w.parts → 1 ≤ v → Splits s u others w e es v
splits s u others w e es v low high low' = search (arith, nat_tests, cases_eq, splits_other, splits_same)

-- the lines that events print for a user
pub lines_printed_by_events : (s : Setup) (u : ℕ) (w : World) (es : List UserEvent) (rest : List ℕ) → 1 ≤ u → u ≤ 8 → length w.parts ≡ 8 → AreUsers es → lines u (printed_by_events s w es ++ rest) ≡ solo_from s (user_machine u w) (mine u es) ++ lines u rest
lines_printed_by_events s u w [] rest low high eight users = refl
lines_printed_by_events s u w (h ∷ es) rest low high eight users =
    let v = h.user in
    let w' : World = after_one s w h in
    let ih = lines_printed_by_events s u w' es rest low high (length-after_one s w h ∙ eight) users.2 in
    ap (lines u) (append_assoc (text (48 + v) (event s (user_machine v w) h.event).lines) (printed_by_events s w' es) rest)
    ∙ lines_text u (48 + v) (event s (user_machine v w) h.event).lines (printed_by_events s w' es ++ rest) (no_newline v) (event_lines s (user_machine v w) h.event)
    ∙ ap (λ (b : Bool). cond b (event s (user_machine v w) h.event).lines [] ++ lines u (printed_by_events s w' es ++ rest)) (grind (arith, nat_tests))
    ∙ ap (λ (x : List (List ℕ)). cond (eqb v u) (event s (user_machine v w) h.event).lines [] ++ x) ih
    ∙ ap (λ (q : Private). cond (eqb v u) (event s (user_machine v w) h.event).lines [] ++ (solo_from s q (mine u es) ++ lines u rest)) (part_after_one s u w h)
    ∙ splits s u (lines u rest) w h.event es v low (omega (arith, high, eight)) users.0

-- the user's machine after events
abbrev Ends : Setup → ℕ → World → Event → List UserEvent → ℕ → Type 0
Ends s u w e es v = end_of s (user_machine u (with_user_machine v (event s (user_machine v w) e).next w)) (mine u es) ≡ end_of s (user_machine u w) (cond (eqb v u) (e ∷ mine u es) (mine u es))

ends_same : (s : Setup) (u : ℕ) (w : World) (e : Event) (es : List UserEvent) → 1 ≤ u → u ≤ length w.parts → Ends s u w e es u
ends_same s u w e es low high = search (part_same, same_number)

ends_other : (s : Setup) (u : ℕ) (w : World) (e : Event) (es : List UserEvent) (v : ℕ) → 1 ≤ u → 1 ≤ v → v ≢ u → Ends s u w e es v
ends_other s u w e es v low low' ne = search (other_number, part_other)

pub part_after_events : (s : Setup) (u : ℕ) (w : World) (es : List UserEvent) → 1 ≤ u → u ≤ 8 → length w.parts ≡ 8 → AreUsers es → user_machine u (after_events s w es) ≡ end_of s (user_machine u w) (mine u es)
part_after_events s u w [] low high eight users = refl
part_after_events s u w (h ∷ es) low high eight users =
    search (arith, cases_eq, ends_other, ends_same, length-after_one, part_after_one, part_after_events s u (after_one s w h) es low high (length-after_one s w h ∙ eight) users.2)

pub length-after_events : (s : Setup) (w : World) (es : List UserEvent) → length (after_events s w es).parts ≡ length w.parts
length-after_events s w [] = refl
length-after_events s w (h ∷ hs) = length-after_events s (after_one s w h) hs ∙ length-after_one s w h

pub users_of : (s : Setup) (w : World) (line : List ℕ) → AreUsers (events_of s w (kind_of line))
unfolding kind_of
users_of s w line = of_either (λ k. AreUsers (events_of s w k)) (nat_lt 1024 (length line)) Long (prefixed line) tt (search (arith, and_parts, grants_to_users, leb-true, parsed_names_user))

-- replies without a user's digit appear in no user's lines
common_lines : (s : Setup) (w : World) (k : Kind) → AreLines (common s w k)
unfolding common
common_lines s w k = search (arith, nat_tests, no_newline_in_operator_line, one_line)

solo-append : (s : Setup) (p : Private) (a b : List Event) → solo_from s p (a ++ b) ≡ solo_from s p a ++ solo_from s (end_of s p a) b
solo-append s p [] b = refl
solo-append s p (e ∷ a) b = ap (λ (x : List (List ℕ)). (event s p e).lines ++ x) (solo-append s (event s p e).next a b) ∙ sym (append_assoc (event s p e).lines (solo_from s (event s p e).next a) (solo_from s (end_of s (event s p e).next a) b))

pub mine-append : (u : ℕ) (a b : List UserEvent) → mine u (a ++ b) ≡ mine u a ++ mine u b
mine-append u [] b = refl
mine-append u (h ∷ a) b = search (arith, nat_tests, of_bool, mine-append u a b)

pub length-after : (s : Setup) (w : World) (line : List ℕ) → length (world_after s w line).parts ≡ length w.parts
unfolding world_after
length-after s w line = length-after_events s w (events_of s w (kind_of line))

pub part_after : (s : Setup) (u : ℕ) (w : World) (line : List ℕ) → 1 ≤ u → u ≤ 8 → length w.parts ≡ 8 → user_machine u (world_after s w line) ≡ end_of s (user_machine u w) (mine u (events_of s w (kind_of line)))
unfolding world_after
part_after s u w line low high eight = part_after_events s u w (events_of s w (kind_of line)) low high eight (users_of s w line)

lines_printed_by_line : (s : Setup) (u : ℕ) (w : World) (line rest : List ℕ) → 1 ≤ u → u ≤ 8 → length w.parts ≡ 8 → lines u (printed_by_line s w line ++ rest) ≡ solo_from s (user_machine u w) (mine u (events_of s w (kind_of line))) ++ lines u rest
unfolding printed_by_line
lines_printed_by_line s u w line rest low high eight =
    let es : List UserEvent = events_of s w (kind_of line) in
    ap (lines u) (append_assoc (printed_by_events s w es) (text 42 (common s w (kind_of line))) rest)
    ∙ lines_printed_by_events s u w es (text 42 (common s w (kind_of line)) ++ rest) low high eight (users_of s w line)
    ∙ ap (λ (x : List (List ℕ)). solo_from s (user_machine u w) (mine u es) ++ x) (search (arith, nat_tests, common_lines, lines_text))

lines_none : (u : ℕ) → lines u [] ≡ []
unfolding lines
lines_none u = search (arith, nat_tests)

-- For all lines of a script: the user's lines are those of the user's machine run alone.
pub lines_printed_by_lines : (s : Setup) (u : ℕ) (w : World) (ls : List (List ℕ)) → 1 ≤ u → u ≤ 8 → length w.parts ≡ 8 → lines u (printed_by_lines s w ls) ≡ solo_from s (user_machine u w) (mine u (schedule s w ls))
lines_printed_by_lines s u w [] low high eight = lines_none u
lines_printed_by_lines s u w (l ∷ ls) low high eight =
    search (length-after, lines_printed_by_line, mine-append, part_after, solo-append, lines_printed_by_lines s u (world_after s w l) ls low high (length-after s w l ∙ eight))

pub headline : (s : Setup) (u : ℕ) (w : World) (script : List ℕ) → 1 ≤ u → u ≤ 8 → length w.parts ≡ 8 → lines u (whole_from s w script) ≡ solo_from s (user_machine u w) (own_from s u w script)
unfolding whole_from own_from
headline s u w script low high eight = lines_printed_by_lines s u w (pieces script) low high eight

pub length-after_all : (s : Setup) (w : World) (ls : List (List ℕ)) → length (after_all s w ls).parts ≡ length w.parts
length-after_all s w [] = refl
length-after_all s w (l ∷ ls) = length-after_all s (world_after s w l) ls ∙ length-after s w l

pub end_of-append : (s : Setup) (p : Private) (a b : List Event) → end_of s p (a ++ b) ≡ end_of s (end_of s p a) b
end_of-append s p [] b = refl
end_of-append s p (e ∷ a) b = end_of-append s (event s p e).next a b

-- the user's machine after all lines
part_after_all : (s : Setup) (u : ℕ) (w : World) (ls : List (List ℕ)) → 1 ≤ u → u ≤ 8 → length w.parts ≡ 8 → user_machine u (after_all s w ls) ≡ end_of s (user_machine u w) (mine u (schedule s w ls))
part_after_all s u w [] low high eight = refl
part_after_all s u w (l ∷ ls) low high eight =
    search (end_of-append, length-after, mine-append, part_after, part_after_all s u (world_after s w l) ls low high (length-after s w l ∙ eight))

pub each_user_alone : EachUserAlone
each_user_alone s w script u eight low high = headline s u w script low high eight

pub each_new_user_alone : EachNewUserAlone
unfolding new_world
each_new_user_alone s script u low high = headline s u new_world script low high refl ∙ ap (λ (p : Private). solo_from s p (own s u script)) (get_or-replicate 8 (u - 1) None None (omega arith))

pub each_user_ends_alone : EachUserEndsAlone
unfolding after_script own_from
each_user_ends_alone s w script u eight low high = part_after_all s u w (pieces script) low high eight

pub others_change_nothing : OthersChangeNothing
others_change_nothing s one two u low high same = search (arith, nat_tests, each_new_user_alone)

part_moves : (s : Setup) (w : World) (h : UserEvent) → 1 ≤ h.user → h.user ≤ 8 → length w.parts ≡ 8
    → user_machine h.user (after_one s w h) ≡ (outcome_of s w h).next
part_moves s w h low high eight = search (arith, part_after_one, part_same)

pub equal_parts_answer_alike : EqualPartsAnswerAlike
equal_parts_answer_alike s one two h low high first second same = search (arith, nat_tests, part_moves)

pub machines_stay_eight : MachinesStayEight
unfolding after_script
machines_stay_eight s w script eight = length-after_all s w (pieces script) ∙ eight

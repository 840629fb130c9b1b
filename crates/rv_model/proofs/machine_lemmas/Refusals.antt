-- A refused command changes nothing.
use Rattle.std.proofs.Common.{◌≡◌, inl, inr, ℕ, zero, suc, ◌+◌, ◌-◌, ◌<◌, List, [], ◌∷◌, ◌++◌, get_or, length, drop, map, true, false, eqb, Ok, Err, refl, ap, sym, ◌∙◌, subst, append_assoc, arith}
use Rattle.std.specs.Prelude.{not}
use Rattle.std.specs.List.{Any}
use Rattle.std.specs.Option.{option_map_or}
use Rattle.std.proofs.lemmas.Bool.{and_from, and_parts, false≢true}
use Rattle.std.proofs.lemmas.List.{append-nil, set-get_or}
use Rattle.std.proofs.lemmas.Bool.Decides.{nat_tests}
use Rattle.rv_model.specs.declared.commands.operator.OperatorCommand.{OperatorCommand}
use Rattle.rv_model.specs.commands.Commands.{parse}
use Rattle.rv_model.specs.commands.Operator.{OperatorParsed, granted_line, list_line, stats_line}
use Rattle.rv_model.specs.machine.Grants.{granted, grants, grants_of, next_running, operator_line, runs, slice_of}
use Rattle.rv_model.specs.machine.World.{Private, Event, Command, Slice, event, World, UserEvent, after_events, after_one, outcome_of, printed_by_events, user_machine}
use Rattle.rv_model.specs.machine.Refusals.{IsRefusal, RefusedUserEventsChangeNothing, RefusedLinesChangeNothing}
use Rattle.rv_model.specs.machine.Script.{commands, common, printed_by_line, world_after}
use Rattle.rv_model.specs.machine.Setup.{Setup}
use Rattle.rv_model.specs.text.Lines.{is_newline, pieces, tagged, text}
use Rattle.rv_model.proofs.text_lemmas.Newlines.{is_line, are_lines, AreLines, IsLine}
use Rattle.rv_model.proofs.command_lemmas.Printing.{one_line}
use Rattle.rv_model.proofs.command_lemmas.Commands.{commanded_settles, Settles}
use Rattle.rv_model.proofs.command_lemmas.Refusals.{are_plain, is_plain, plain_line}
use Rattle.rv_model.proofs.machine_lemmas.EventLines.{event_lines, sliced_printed}
use Rattle.rv_model.proofs.machine_lemmas.Grants.{no_newline_in_operator_line}
use Rattle.rv_model.proofs.machine_lemmas.Headline.{no_newline}
use Rattle.rv_model.proofs.text_lemmas.Lines.{pieces_at}
use Rattle.rv_model.proofs.Choices.{of_bool, of_option, of_either}

-- ---- the replies in an output

-- each reply without the digit or star and the space before it
abbrev answers_in : List ℕ → List (List ℕ)
answers_in output = map (λ line. drop 2 line) (pieces output)

plain_at : (answers : List (List ℕ)) (k : ℕ) (d : List ℕ) → are_plain answers ≡ true → k < length answers
    → is_plain (get_or answers k d) ≡ true
plain_at [] k d plain below = absurd (omega (arith, below))
plain_at (a ∷ rest) zero d plain below = (and_parts (is_plain a) (are_plain rest) plain).0
plain_at (a ∷ rest) (suc k) d plain below =
    plain_at rest k d (and_parts (is_plain a) (are_plain rest) plain).1 (omega (arith, below))

-- none of the plain replies is a refusal
none_refused : (answers : List (List ℕ)) → are_plain answers ≡ true → Any IsRefusal answers → ⊥
none_refused answers plain any =
    false≢true (sym (ap not (ap (λ n. eqb n 69) any.4)) ∙ (sym (ap is_plain any.3) ∙ plain_at answers any.0 any.1 plain any.2))

answers_tagged : (tag : ℕ) (line rest : List ℕ) → is_newline tag ≡ false → IsLine line
    → answers_in (tagged tag line ++ rest) ≡ line ∷ answers_in rest
answers_tagged tag line rest plain h =
    ap (λ (l : List ℕ). answers_in (tag ∷ 32 ∷ l)) (append_assoc line (10 ∷ []) rest)
    ∙ ap (map (λ (l : List ℕ). drop 2 l)) (pieces_at (tag ∷ 32 ∷ line) rest (and_from (not (is_newline tag)) (is_line (32 ∷ line)) (ap not plain) h))

-- a text is plain if its lines and the rest after them are plain
plain_text : (tag : ℕ) (ls : List (List ℕ)) (rest : List ℕ) → is_newline tag ≡ false → AreLines ls → are_plain ls ≡ true
    → are_plain (answers_in rest) ≡ true → are_plain (answers_in (text tag ls ++ rest)) ≡ true
plain_text tag [] rest plain lines h k = k
plain_text tag (l ∷ ls) rest plain lines h k =
    let here = and_parts (is_line l) (are_lines ls) lines in
    let two = and_parts (is_plain l) (are_plain ls) h in
    ap (λ (t : List ℕ). are_plain (answers_in t)) (append_assoc (tagged tag l) (text tag ls) rest)
    ∙ ap are_plain (answers_tagged tag l (text tag ls ++ rest) plain here.0)
    ∙ and_from _ _ two.0 (plain_text tag ls rest plain here.1 two.1 k)

plain_all : (tag : ℕ) (ls : List (List ℕ)) → is_newline tag ≡ false → AreLines ls → are_plain ls ≡ true
    → are_plain (answers_in (text tag ls)) ≡ true
plain_all tag ls plain lines h =
    ap (λ (t : List ℕ). are_plain (answers_in t)) (sym (append-nil (text tag ls))) ∙ plain_text tag ls [] plain lines h refl

-- ---- events of a user

slice_plain : (s : Setup) (p : Private) (e : Event) → e ≡ Slice → are_plain (event s p e).lines ≡ true
unfolding event
slice_plain s p e is =
    subst (λ (e : Event). are_plain (event s p e).lines ≡ true) (sym is) (sliced_printed s.quantum p).1

event_settles : (s : Setup) (p : Private) (e : Event) → Settles p (event s p e)
unfolding event
event_settles s p (Command line) = commanded_settles s.images p (parse line)
event_settles s p Slice = inr (sliced_printed s.quantum p).1

-- the world is unchanged if the user's machine is unchanged, the vector unit isn't used, and the event isn't a turn
same_world : (s : Setup) (w : World) (h : UserEvent) → h.turn ≡ false → (outcome_of s w h).next ≡ user_machine h.user w
    → (outcome_of s w h).uses ≡ [] → after_one s w h ≡ w
same_world s w h turn same unused = search (arith, nat_tests, set-get_or)

pub refused_user_events_change_nothing : RefusedUserEventsChangeNothing
refused_user_events_change_nothing s w h slices refused = search (arith, nat_tests, event_settles, none_refused, of_bool, same_world, slice_plain)

-- ---- grants of the operator

abbrev AreSlices : List UserEvent → Type 0
AreSlices [] = Unit {0}
AreSlices (h ∷ hs) = (h.event ≡ Slice) × AreSlices hs

granted_are_slices : (s : Setup) (n : ℕ) (w : World) → AreSlices (granted s n w)
unfolding granted
granted_are_slices s zero w = tt
granted_are_slices s (suc n) w =
    of_option (next_running w) (λ o. AreSlices (option_map_or (λ u. slice_of u true ∷ granted s n (after_one s w (slice_of u true))) o []))
    (λ e. tt) (λ u e. (refl, granted_are_slices s n (after_one s w (slice_of u true))))

grants_are_slices : (s : Setup) (w : World) (c : OperatorCommand) → AreSlices (grants s w c)
grants_are_slices s w c = search (arith, nat_tests, granted_are_slices, of_either, runs)

plain_printed_by_events : (s : Setup) (w : World) (hs : List UserEvent) (rest : List ℕ) → AreSlices hs
    → are_plain (answers_in rest) ≡ true → are_plain (answers_in (printed_by_events s w hs ++ rest)) ≡ true
plain_printed_by_events s w [] rest slices k = k
plain_printed_by_events s w (h ∷ hs) rest slices k =
    ap (λ (t : List ℕ). are_plain (answers_in t)) (append_assoc (text (48 + h.user) ((outcome_of s w h).lines)) (printed_by_events s (after_one s w h) hs) rest)
    ∙ plain_text (48 + h.user) ((outcome_of s w h).lines) (printed_by_events s (after_one s w h) hs ++ rest) (no_newline h.user)
    (event_lines s (user_machine h.user w) h.event) (slice_plain s (user_machine h.user w) h.event slices.0)
    (plain_printed_by_events s (after_one s w h) hs rest slices.1 k)

operator_line_plain : (s : Setup) (w : World) (c : OperatorCommand) → is_plain (operator_line s w (Ok c)) ≡ true
unfolding granted_line list_line stats_line
operator_line_plain s w c = search (arith, nat_tests)

-- ---- a line of a script

-- the lines that a user's line prints
user_line : (s : Setup) (w : World) (u : ℕ) (line : List ℕ)
    → Any IsRefusal (answers_in (printed_by_events s w (commands u line ∷ []) ++ [])) → after_one s w (commands u line) ≡ w
user_line s w u line refused =
    elim (event_settles s (user_machine u w) (Command line)) [
      | inl same ↦ same_world s w (commands u line) refl same.0 same.1
      | inr plain ↦
          let ls : List (List ℕ) = (outcome_of s w (commands u line)).lines in
          let all = plain_text (48 + u) ls [] (no_newline u) (event_lines s (user_machine u w) (Command line)) plain refl in
          absurd (none_refused _ (ap (λ (t : List ℕ). are_plain (answers_in t)) (append_assoc (text (48 + u) ls) [] []) ∙ all) refused)
    ]

operator_line_refused : (s : Setup) (w : World) (r : OperatorParsed)
    → Any IsRefusal (answers_in (printed_by_events s w (grants_of s w r) ++ text 42 (operator_line s w r ∷ [])))
    → after_events s w (grants_of s w r) ≡ w
operator_line_refused s w (Err reason) refused = refl
operator_line_refused s w (Ok c) refused =
    search (grants_are_slices, no_newline_in_operator_line, none_refused, one_line, operator_line_plain, plain_all, plain_line, plain_printed_by_events)

pub refused_lines_change_nothing : RefusedLinesChangeNothing
unfolding world_after printed_by_line common
refused_lines_change_nothing s w line refused = search (arith, nat_tests, operator_line_refused, user_line)

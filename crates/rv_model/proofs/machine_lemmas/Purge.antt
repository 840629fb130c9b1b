-- A user's lines don't change if the lines of all other users are removed, once lines `run` replace each `slices`.
use Rattle.std.proofs.Common.{◌≡◌, ◌≢◌, inl, inr, ℕ, zero, suc, ◌-◌, ◌≤◌, List, [], ◌∷◌, ◌++◌, length, Bool, true, false, Some, None, Ok, cond, refl, ap, ◌∙◌, sym, subst, append_assoc, arith}
use Rattle.std.specs.Prelude.{codes, decimal, filter, find, map, not, ◌==◌}
use Rattle.std.specs.List.{list_any, onto_first}
use Rattle.std.specs.Option.{option_map_or}
use Rattle.std.specs.Fmt.{digits}
use Rattle.std.proofs.lemmas.Bool.{and_parts, and_from, cases_eq, false≢true, not-true, or_from, or_parts, true≢false}
use Rattle.std.proofs.lemmas.List.{get_or-replicate}
use Rattle.std.proofs.lemmas.List.Splits.{join_with_byte-slice_split}
use Rattle.std.proofs.lemmas.Option.{none-some}
use Rattle.std.proofs.lemmas.Bool.Decides.{nat_tests}
use Rattle.rv_model.specs.declared.commands.operator.OperatorCommand.TheVariants.{Run}
use Rattle.rv_model.specs.commands.Commands.{command_outcome, named, of_absent, of_present, parse}
use Rattle.rv_model.specs.commands.Entering.{entering, entering_absent}
use Rattle.rv_model.specs.commands.Operator.{OperatorParsed, operator_parse}
use Rattle.rv_model.specs.commands.Reading.{one_argument}
use Rattle.rv_model.specs.commands.Running.{running_command}
use Rattle.rv_model.specs.machine.Grants.{next_user, runs, next_running, slice_of, granted, grants_of}
use Rattle.rv_model.specs.machine.World.{Private, Event, Command, Slice, event, end_of, World, UserEvent, after_one, user_machine}
use Rattle.rv_model.specs.machine.Script.{new_world, Kind, Operator, Of, kind_of, events_of, world_after, schedule, mine, own_from, own, whole, lines}
use Rattle.rv_model.specs.machine.Setup.{Setup}
use Rattle.rv_model.specs.machine.Purge.{runs_other, is_of_other, script_of, grants_turns, is_slices, HasNoSlices, run_line, line_with_runs, lines_with_runs, with_runs, OthersCanBePurged, OthersCanBeReplaced, RunsReplaceSlices, OnlySlicesAreReplaced, OthersCanBePurgedFromAll, SmallScriptsArePurged, SmallScriptsGetRuns}
use Rattle.rv_model.specs.scalar.Registers.{initial_scalar}
use Rattle.rv_model.specs.text.Digits.{digits_after}
use Rattle.rv_model.specs.text.Lines.{is_newline, pieces}
use Rattle.rv_model.specs.text.Words.{words}
use Rattle.rv_model.specs.vector.State.{initial_vector}
use Rattle.rv_model.proofs.Choices.{of_bool, of_either, of_option, first_or}
use Rattle.rv_model.proofs.text_lemmas.Lines.{pieces_at, pieces_of_line}
use Rattle.rv_model.proofs.text_lemmas.Newlines.{is_line, IsLine, are_lines, AreLines}
use Rattle.rv_model.proofs.text_lemmas.Pieces.{is_line-append, decimal_line}
use Rattle.rv_model.proofs.machine_lemmas.Grants.{AreUsers, IsUser, IsUserIfAny, next_is_user}
use Rattle.rv_model.proofs.machine_lemmas.Headline.{length-after, end_of-append, length-after_one, mine-append, other_number, others_change_nothing, part_after, part_after_events, same_number, users_of}
use Rattle.rv_model.proofs.machine_lemmas.Turns.{flag_of}

-- ---- lines and scripts

onto_first_lines : (b : ℕ) (ps : List (List ℕ)) → not (is_newline b) ≡ true → AreLines ps → AreLines (onto_first b ps)
onto_first_lines b ps other h = search (arith, nat_tests, and_from, and_parts)

-- the pieces of a text contain no newline
pieces_are_lines : (text : List ℕ) → AreLines (pieces text)
pieces_are_lines [] = refl
pieces_are_lines (b ∷ bs) = search (arith, nat_tests, of_bool, onto_first_lines, pieces_are_lines bs)

-- lines without a newline, none of them a `slices`
abbrev ArePlain : List (List ℕ) → Type 0
ArePlain [] = Unit {0}
ArePlain (l ∷ ls) = IsLine l × (is_slices (kind_of l) ≡ false) × ArePlain ls

abbrev any_slices : List (List ℕ) → Bool
any_slices ls = list_any (λ line. is_slices (kind_of line)) ls

plain_from : (ls : List (List ℕ)) → AreLines ls → any_slices ls ≡ false → ArePlain ls
plain_from [] lines none = tt
plain_from (l ∷ ls) lines none =
    let two = and_parts (is_line l) (are_lines ls) lines in
    let no = or_parts (is_slices (kind_of l)) (any_slices ls) none in
    (two.0, no.0, plain_from ls two.1 no.1)

none_from : (ls : List (List ℕ)) → ArePlain ls → any_slices ls ≡ false
none_from [] plain = refl
none_from (l ∷ ls) plain = or_from (is_slices (kind_of l)) (any_slices ls) plain.1 (none_from ls plain.2)

plain-append : (a b : List (List ℕ)) → ArePlain a → ArePlain b → ArePlain (a ++ b)
plain-append [] b h k = k
plain-append (l ∷ a) b h k = (h.0, h.1, plain-append a b h.2 k)

plain-filter : (p : List ℕ → Bool) (ls : List (List ℕ)) → ArePlain ls → ArePlain (filter p ls)
plain-filter p [] h = tt
plain-filter p (l ∷ ls) h = search (arith, nat_tests, of_either, plain-filter p ls h.2)

-- the pieces of a script from at least one line are its lines
pieces_of_script : (l : List ℕ) (ls : List (List ℕ)) → ArePlain (l ∷ ls) → pieces (script_of (l ∷ ls)) ≡ l ∷ ls
pieces_of_script l [] plain = pieces_of_line l plain.0
pieces_of_script l (m ∷ ls) plain = search (pieces_at, pieces_of_script m ls plain.2)

no_slices_in_script : (ls : List (List ℕ)) → ArePlain ls → HasNoSlices (script_of ls)
unfolding kind_of
no_slices_in_script [] plain = refl
no_slices_in_script (l ∷ ls) plain = ap any_slices (pieces_of_script l ls plain) ∙ none_from (l ∷ ls) plain

-- ---- a user's events in lines without `slices` depend on the user's machine alone

abbrev own_operator : Private → ℕ → OperatorParsed → List Event
own_operator p u (Ok (Run v)) = cond (v == u) (cond (runs p) (Slice ∷ []) []) []
own_operator p u _ = []

abbrev own_kind : Private → ℕ → Kind → List Event
own_kind p u (Of v line) = cond (v == u) (Command line ∷ []) []
own_kind p u (Operator line) = own_operator p u (operator_parse line)
own_kind p u _ = []

abbrev own_lines : Setup → Private → ℕ → List (List ℕ) → List Event
own_lines s p u [] = []
own_lines s p u (l ∷ ls) = own_kind p u (kind_of l) ++ own_lines s (end_of s p (own_kind p u (kind_of l))) u ls

-- a slice for user v, if v's program is running, among the events of user u
abbrev OwnRun : World → ℕ → ℕ → Type 0
OwnRun w u v = mine u (cond (runs (user_machine v w)) (slice_of v false ∷ []) []) ≡ own_operator (user_machine u w) u (Ok (Run v))

own_run_same : (u : ℕ) (w : World) → OwnRun w u u
own_run_same u w = search (arith, nat_tests, of_bool, runs, same_number)

own_run_other : (u v : ℕ) (w : World) → v ≢ u → OwnRun w u v
own_run_other u v w ne = search (arith, nat_tests, of_bool, other_number, runs)

own_run : (u v : ℕ) (w : World) → OwnRun w u v
own_run u v w = search (arith, nat_tests, cases_eq, own_run_other, own_run_same)

own_grants : (s : Setup) (u : ℕ) (w : World) (r : OperatorParsed) → grants_turns r ≡ false
    → mine u (grants_of s w r) ≡ own_operator (user_machine u w) u r
own_grants s u w r none = search (arith, nat_tests, own_run, true≢false)

own_events : (s : Setup) (u : ℕ) (w : World) (k : Kind) → is_slices k ≡ false → mine u (events_of s w k) ≡ own_kind (user_machine u w) u k
own_events s u w k none = search (arith, nat_tests, own_grants)

own_schedule : (s : Setup) (u : ℕ) (w : World) (ls : List (List ℕ)) → 1 ≤ u → u ≤ 8 → length w.parts ≡ 8 → ArePlain ls
    → mine u (schedule s w ls) ≡ own_lines s (user_machine u w) u ls
own_schedule s u w [] low high eight plain = refl
own_schedule s u w (l ∷ ls) low high eight plain =
    let es : List UserEvent = events_of s w (kind_of l) in
    mine-append u es (schedule s (world_after s w l) ls)
    ∙ ap (λ (x : List Event). mine u es ++ x) (own_schedule s u (world_after s w l) ls low high (length-after s w l ∙ eight) plain.2)
    ∙ ap (λ (p : Private). mine u es ++ own_lines s p u ls) (part_after s u w l low high eight)
    ∙ ap (λ (x : List Event). x ++ own_lines s (end_of s (user_machine u w) x) u ls) (own_events s u w (kind_of l) plain.1)

absent_in_new_world : (u : ℕ) → 1 ≤ u → u ≤ 8 → user_machine u new_world ≡ None
unfolding new_world
absent_in_new_world u low high = get_or-replicate 8 (u - 1) None None (omega arith)

-- the same from new machines
own_from_new : (s : Setup) (u : ℕ) (ls : List (List ℕ)) → 1 ≤ u → u ≤ 8 → ArePlain ls
    → mine u (schedule s new_world ls) ≡ own_lines s None u ls
unfolding new_world
own_from_new s u ls low high plain = search (absent_in_new_world, own_schedule)

own_of_script : (s : Setup) (u : ℕ) (ls : List (List ℕ)) → 1 ≤ u → u ≤ 8 → ArePlain ls → own s u (script_of ls) ≡ own_lines s None u ls
unfolding own_from kind_of
own_of_script s u [] low high plain = own_from_new s u ([] ∷ []) low high (refl, refl, tt)
own_of_script s u (l ∷ ls) low high plain = search (own_from_new, pieces_of_script)

-- ---- removed lines

no_own_grant : (p : Private) (u : ℕ) (r : OperatorParsed) → runs_other u r ≡ true → own_operator p u r ≡ []
no_own_grant p u r other = search (arith, nat_tests, false≢true, not-true)

-- a line of another user has no event of the user
no_own_event : (p : Private) (u : ℕ) (k : Kind) → is_of_other u k ≡ true → own_kind p u k ≡ []
no_own_event p u k other = search (arith, nat_tests, false≢true, no_own_grant, not-true)

abbrev remaining : ℕ → List (List ℕ) → List (List ℕ)
remaining u ls = filter (λ line. not (is_of_other u (kind_of line))) ls

own_remaining : (s : Setup) (p : Private) (u : ℕ) (ls : List (List ℕ)) → own_lines s p u (remaining u ls) ≡ own_lines s p u ls
own_remaining s p u [] = refl
own_remaining s p u (l ∷ ls) =
    search (arith, nat_tests, no_own_event, of_bool, own_remaining s (end_of s p (own_kind p u (kind_of l))) u ls, own_remaining s p u ls)

plain_pieces : (script : List ℕ) → HasNoSlices script → ArePlain (pieces script)
plain_pieces script none = plain_from (pieces script) (pieces_are_lines script) none

pub others_can_be_purged : OthersCanBePurged
unfolding own_from
others_can_be_purged s script u low high none = search (others_change_nothing, own_from_new, own_of_script, own_remaining, plain-filter, plain_pieces)

pub others_can_be_replaced : OthersCanBeReplaced
others_can_be_replaced s one two u low high none_in_one none_in_two same =
    sym (others_can_be_purged s one u low high none_in_one) ∙ ap (λ (script : List ℕ). lines u (whole s script)) same
    ∙ others_can_be_purged s two u low high none_in_two

-- ---- lines `run` in place of `slices`

-- a line `run` is parsed as the command
abbrev RunsUser : ℕ → Type 0
RunsUser v = (kind_of (run_line v) ≡ Operator (codes "run " ++ decimal v)) × (operator_parse (codes "run " ++ decimal v) ≡ Ok (Run v))

run_line_runs : (v : ℕ) → IsUser v → RunsUser v
unfolding kind_of operator_parse words one_argument digits_after digits
run_line_runs zero is = absurd (omega (arith, is.0))
run_line_runs (suc (suc (suc (suc (suc (suc (suc (suc (suc n))))))))) is = absurd (omega (arith, is.1))
run_line_runs _ is = (refl, refl)

own_run_line : (p : Private) (u v : ℕ) → IsUser v → own_kind p u (kind_of (run_line v)) ≡ own_operator p u (Ok (Run v))
own_run_line p u v is = search (arith, nat_tests, run_line_runs)

no_slices_in_run_line : (v : ℕ) → IsUser v → is_slices (kind_of (run_line v)) ≡ false
no_slices_in_run_line v is = let runs = run_line_runs v is in ap is_slices runs.0 ∙ ap grants_turns runs.1

abbrev run_lines : List UserEvent → List (List ℕ)
run_lines hs = map (λ h. run_line h.user) hs

plain_runs : (hs : List UserEvent) → AreUsers hs → ArePlain (run_lines hs)
plain_runs [] users = tt
plain_runs (h ∷ hs) users = search (decimal_line, is_line-append, no_slices_in_run_line, plain_runs hs users.2)

plain_with_runs : (s : Setup) (w : World) (ls : List (List ℕ)) → AreLines ls → ArePlain (lines_with_runs s w ls)
plain_with_runs s w [] lines = tt
plain_with_runs s w (l ∷ ls) lines =
    let two = and_parts (is_line l) (are_lines ls) lines in
    let es : List UserEvent = events_of s w (kind_of l) in
    plain-append (line_with_runs s w l) (lines_with_runs s (world_after s w l) ls)
    (of_bool (is_slices (kind_of l)) (λ b. ArePlain (cond b (run_lines es) (l ∷ [])))
    (λ e. plain_runs es (users_of s w l)) (λ e. (two.0, e, tt)))
    (plain_with_runs s (world_after s w l) ls two.1)

-- the user of the next turn has a running program
found_passes : (p : ℕ → Bool) (xs : List ℕ) (x : ℕ) → find p xs ≡ Some x → p x ≡ true
found_passes p [] x found = absurd (none-some x found)
found_passes p (y ∷ ys) x found =
    elim (first_or (p y) y x (find p ys) found) [
      | inl here ↦ subst (λ z. p z ≡ true) here.1 here.0
      | inr later ↦ found_passes p ys x later
    ]

next_runs : (w : World) (v : ℕ) → next_running w ≡ Some v → runs (user_machine v w) ≡ true
unfolding next_user
next_runs w v next = search (arith, nat_tests, flag_of, found_passes, runs)

-- a turn is a slice of a user whose program is running, so `run` grants it as well
own_turn : (u v : ℕ) (w : World) → IsUser v → runs (user_machine v w) ≡ true
    → own_kind (user_machine u w) u (kind_of (run_line v)) ≡ mine u (slice_of v true ∷ [])
own_turn u v w is running = search (arith, nat_tests, own_run, own_run_line)

own_granted : (s : Setup) (u n : ℕ) (w : World) → 1 ≤ u → u ≤ 8 → length w.parts ≡ 8
    → own_lines s (user_machine u w) u (run_lines (granted s n w)) ≡ mine u (granted s n w)
unfolding granted
own_granted s u zero w low high eight = refl
own_granted s u (suc n) w low high eight =
    of_option (next_running w)
    (λ o. let hs : List UserEvent = option_map_or (λ v. slice_of v true ∷ granted s n (after_one s w (slice_of v true))) o [] in
    own_lines s (user_machine u w) u (run_lines hs) ≡ mine u hs)
    (λ next. refl) (λ v next.
    let w' : World = after_one s w (slice_of v true) in
    let is = subst IsUserIfAny next (next_is_user w.cursor (map runs w.parts)) in
    let moved = part_after_events s u w ((slice_of v true) ∷ []) low high eight (is.0, is.1, tt) in
    ap (λ (x : List Event). x ++ own_lines s (end_of s (user_machine u w) x) u (run_lines (granted s n w'))) (own_turn u v w is (next_runs w v next))
    ∙ ap (λ (p : Private). mine u ((slice_of v true) ∷ []) ++ own_lines s p u (run_lines (granted s n w'))) (sym moved)
    ∙ ap (λ (x : List Event). mine u ((slice_of v true) ∷ []) ++ x) (own_granted s u n w' low high (length-after_one s w (slice_of v true) ∙ eight))
    ∙ sym (mine-append u ((slice_of v true) ∷ []) (granted s n w')))

-- a `slices` has the events of its lines `run`
own_slices : (s : Setup) (u : ℕ) (w : World) (k : Kind) → 1 ≤ u → u ≤ 8 → length w.parts ≡ 8 → is_slices k ≡ true
    → own_lines s (user_machine u w) u (run_lines (events_of s w k)) ≡ mine u (events_of s w k)
own_slices s u w k low high eight is = search (arith, nat_tests, false≢true, own_granted)

own_lines-append : (s : Setup) (p : Private) (u : ℕ) (a b : List (List ℕ))
    → own_lines s p u (a ++ b) ≡ own_lines s p u a ++ own_lines s (end_of s p (own_lines s p u a)) u b
own_lines-append s p u [] b = refl
own_lines-append s p u (l ∷ a) b =
    let q : Private = end_of s p (own_kind p u (kind_of l)) in
    let others : List Event = own_lines s q u a in
    ap (λ (x : List Event). (own_kind p u (kind_of l)) ++ x) (own_lines-append s q u a b)
    ∙ sym (append_assoc (own_kind p u (kind_of l)) others (own_lines s (end_of s q others) u b))
    ∙ ap (λ (r : Private). ((own_kind p u (kind_of l)) ++ others) ++ own_lines s r u b) (sym (end_of-append s p (own_kind p u (kind_of l)) others))

own_with_runs : (s : Setup) (u : ℕ) (w : World) (ls : List (List ℕ)) → 1 ≤ u → u ≤ 8 → length w.parts ≡ 8
    → own_lines s (user_machine u w) u (lines_with_runs s w ls) ≡ mine u (schedule s w ls)
own_with_runs s u w [] low high eight = refl
own_with_runs s u w (l ∷ ls) low high eight =
    let es : List UserEvent = events_of s w (kind_of l) in
    let rest : List (List ℕ) = lines_with_runs s (world_after s w l) ls in
    own_lines-append s (user_machine u w) u (line_with_runs s w l) rest
    ∙ ap (λ (x : List Event). x ++ own_lines s (end_of s (user_machine u w) x) u rest) (search (arith, nat_tests, of_bool, own_events, own_slices))
    ∙ ap (λ (q : Private). mine u es ++ own_lines s q u rest) (sym (part_after s u w l low high eight))
    ∙ ap (λ (x : List Event). mine u es ++ x) (own_with_runs s u (world_after s w l) ls low high (length-after s w l ∙ eight))
    ∙ sym (mine-append u es (schedule s (world_after s w l) ls))

own_of_runs : (s : Setup) (u : ℕ) (script : List ℕ) → 1 ≤ u → u ≤ 8 → own s u (with_runs s script) ≡ own s u script
unfolding own_from new_world
own_of_runs s u script low high =
    let ls : List (List ℕ) = lines_with_runs s new_world (pieces script) in
    own_of_script s u ls low high (plain_with_runs s new_world (pieces script) (pieces_are_lines script))
    ∙ sym (ap (λ (p : Private). own_lines s p u ls) (absent_in_new_world u low high))
    ∙ own_with_runs s u new_world (pieces script) low high refl

pub runs_replace_slices : RunsReplaceSlices
runs_replace_slices s script u low high = search (others_change_nothing, own_of_runs)

same_lines : (s : Setup) (w : World) (ls : List (List ℕ)) → any_slices ls ≡ false → lines_with_runs s w ls ≡ ls
same_lines s w [] none = refl
same_lines s w (l ∷ ls) none =
    let two = or_parts (is_slices (kind_of l)) (any_slices ls) none in
    ap (λ (b : Bool). cond b (run_lines (events_of s w (kind_of l))) (l ∷ []) ++ (lines_with_runs s (world_after s w l) ls)) two.0
    ∙ ap (λ (x : List (List ℕ)). l ∷ x) (same_lines s (world_after s w l) ls two.1)

pub only_slices_are_replaced : OnlySlicesAreReplaced
only_slices_are_replaced s script = search (join_with_byte-slice_split, no_slices_in_script, pieces_are_lines, plain_with_runs, same_lines)

pub others_can_be_purged_from_all : OthersCanBePurgedFromAll
others_can_be_purged_from_all s script u low high = search (arith, nat_tests, only_slices_are_replaced, others_can_be_purged, runs_replace_slices)

pub small_scripts_are_purged : SmallScriptsArePurged
unfolding kind_of operator_parse words one_argument digits_after
small_scripts_are_purged = refl

pub small_scripts_get_runs : SmallScriptsGetRuns
unfolding kind_of operator_parse words one_argument digits_after digits new_world world_after granted next_user event parse named of_absent of_present entering_absent entering running_command command_outcome initial_scalar initial_vector
small_scripts_get_runs = λ setup. refl

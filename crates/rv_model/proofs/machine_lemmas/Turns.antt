-- Turns rotate: no user with a running program waits for ever.
use Rattle.std.proofs.Common.{◌≡◌, ◌≢◌, inl, inr, ℕ, zero, suc, ◌+◌, ◌-◌, ◌*◌, ◌/◌, ◌%◌, ◌<◌, ◌≤◌, List, [], ◌∷◌, ◌++◌, length, get_or, Bool, true, false, Some, None, cond, eqb, refl, ap, ◌∙◌, sym, subst, append_assoc, arith}
use Rattle.std.specs.Prelude.{find, filter, map, if◌then◌else◌, ◌==◌, slice_index_or}
use Rattle.std.proofs.lemmas.Bool.{agree_below_at, cases_Bool, cases_eq, eqb-true, false≢true}
use Rattle.std.proofs.lemmas.Option.{same_Some}
use Rattle.std.specs.Option.{option_map_or}
use Rattle.std.proofs.lemmas.Bool.Decides.{nat_tests}
use Rattle.rv_model.specs.machine.Grants.{turns_after, next_user, runs, next_running, slice_of, granted}
use Rattle.rv_model.specs.machine.World.{Private, Slice, World, UserEvent, after_one, after_events}
use Rattle.rv_model.specs.machine.Script.{Kind, events_of, schedule, world_after}
use Rattle.rv_model.specs.machine.Setup.{Setup}
use Rattle.rv_model.specs.machine.Turns.{AtEachTurn, AreInTurn, RunsAtEachTurn, turns_of, NobodyHasTwoTurns, EachRunningUserHasATurn, GrantsAreInTurn, OneTurnBetweenTurns, ScriptsAreInTurn}
use Rattle.rv_model.specs.text.Lines.{pieces}
use Rattle.rv_model.proofs.machine_lemmas.Grants.{IsUser, IsUserIfAny, next_is_user}
use Rattle.rv_model.proofs.machine_lemmas.Headline.{same_number, other_number}
use Rattle.rv_model.proofs.Choices.{of_bool, of_either, of_option}

-- ---- the order of turns

-- a test of the user of a turn, for the number 8 times the last user plus the turn
abbrev turn_is : ℕ → Bool
turn_is n = eqb (slice_index_or (turns_after (n / 8)) (n % 8) 0) ((n / 8 + n % 8) % 8 + 1)

pub turn_at : (last turns : ℕ) → last ≤ 8 → turns < 8 → (last + turns) % 8 + 1 ≡ slice_index_or (turns_after last) turns 0
turn_at last turns low small =
    let is = eqb-true _ _ (agree_below_at turn_is (λ _. true) 72 (8 * last + turns) refl (omega (arith, low, small))) in
    sym (ap (λ q. (q + (8 * last + turns) % 8) % 8 + 1) (omega (arith, small)) ∙ ap (λ r. (last + r) % 8 + 1) (omega (arith, small))) ∙ sym is
    ∙ ap (λ q. slice_index_or (turns_after q) ((8 * last + turns) % 8) 0) (omega (arith, small)) ∙ ap (λ r. slice_index_or (turns_after last) r 0) (omega (arith, small))

-- a round after any cursor has eight turns
long_is : (last : ℕ) → last ≤ 8 → length (turns_after last) ≡ 8
long_is last low =
    eqb-true _ _ (agree_below_at (λ n. eqb (length (turns_after n)) 8) (λ _. true) 9 last refl (omega (arith, low)))

-- the number of users between the cursor and user u, in rotating order
abbrev ahead : ℕ → ℕ → ℕ
ahead cursor u = (u + 7 - cursor) % 8

picked : (p : ℕ → Bool) (y : ℕ) (ys : List ℕ) (b : Bool) → p y ≡ b → find p (y ∷ ys) ≡ cond b (Some y) (find p ys)
picked p y ys b is = ap (λ (b : Bool). cond b (Some y) (find p ys)) is

-- the first number that passes a test is at or before every other that passes
found_first : (p : ℕ → Bool) (xs : List ℕ) (j x : ℕ) → j < length xs → p (get_or xs j 0) ≡ true → find p xs ≡ Some x
    → (i : ℕ) × (i ≤ j) × (get_or xs i 0 ≡ x)
found_first p [] j x within passes found = absurd (omega (arith, within))
found_first p (y ∷ ys) zero x within passes found = search (arith, picked, same_Some)
found_first p (y ∷ ys) (suc j) x within passes found =
    elim (cases_Bool (p y)) [
      | inl h ↦ (0, omega arith, same_Some y x (sym (picked p y ys true h) ∙ found))
      | inr h ↦ let i = (found_first p ys j x (omega (arith, within)) passes) (sym (picked p y ys false h) ∙ found) in (suc i.0, omega (arith, i.1), i.2)
    ]

-- the user with the next turn is at or before every user whose flag is set
pub next_comes_first : (cursor u x : ℕ) (flags : List Bool) → cursor ≤ 8 → IsUser u → slice_index_or flags (u - 1) false ≡ true
    → next_user cursor flags ≡ Some x → ahead cursor x ≤ ahead cursor u
unfolding next_user
next_comes_first cursor u x flags low user set found =
    let p : ℕ → Bool = λ v. slice_index_or flags (v - 1) false in
    let small : (ahead cursor u) < 8 = omega arith in
    let here : slice_index_or (turns_after cursor) (ahead cursor u) 0 ≡ u = omega (arith, turn_at cursor (ahead cursor u) low small, low, user.0, user.1) in
    let i = found_first p (turns_after cursor) (ahead cursor u) x (rw (long_is cursor low) small) (ap p here ∙ set) found in
    omega (arith, low, user.0, user.1, i.1, i.2, turn_at cursor i.0 low (omega (arith, i.1, small)))

-- the flag of a user is set if the user's program is running
pub flag_of : (parts : List Private) (i : ℕ) → get_or (map runs parts) i false ≡ runs (get_or parts i None)
flag_of [] i = refl
flag_of (p ∷ ps) zero = refl
flag_of (p ∷ ps) (suc i) = flag_of ps i

-- ---- the users of consecutive turns

-- the users of the turns among events, in order
abbrev turn_users : List UserEvent → List ℕ
turn_users [] = []
turn_users (h ∷ hs) = if h.turn then h.user ∷ turn_users hs else turn_users hs

-- the number of occurrences of a number
abbrev count : ℕ → List ℕ → ℕ
count u [] = 0
count u (x ∷ xs) = (if x == u then 1 else 0) + count u xs

-- each is a user who comes no later than user u, in rotating order after the previous one
abbrev NoneIsLater : ℕ → ℕ → List ℕ → Type 0
NoneIsLater u cursor [] = Unit {0}
NoneIsLater u cursor (x ∷ xs) = IsUser x × (cursor ≤ 8 → ahead cursor x ≤ ahead cursor u) × NoneIsLater u x xs

-- the number of turns
abbrev turns : List UserEvent → ℕ
turns hs = length (filter (λ h. h.turn) hs)

turns_are : (hs : List UserEvent) → turns hs ≡ length (turn_users hs)
turns_are [] = refl
turns_are (h ∷ hs) = search (arith, nat_tests, of_bool, turns_are hs)

turns_of_are : (u : ℕ) (hs : List UserEvent) → turns_of u hs ≡ count u (turn_users hs)
turns_of_are u [] = refl
turns_of_are u (h ∷ hs) = search (arith, of_bool, turns_of_are u hs)

first_counts : (u x : ℕ) (xs : List ℕ) → x ≡ u → count u (x ∷ xs) ≡ suc (count u xs)
first_counts u x xs same = search (arith, same_number)

others_count : (u x : ℕ) (xs : List ℕ) → x ≢ u → count u (x ∷ xs) ≡ count u xs
others_count u x xs other = search (arith, other_number)

-- a number that doesn't occur is neither the first nor in the rest
absent : (u x : ℕ) (xs : List ℕ) → count u (x ∷ xs) ≡ 0 → (x ≢ u) × (count u xs ≡ 0)
absent u x xs none = search (arith, cases_eq, first_counts, others_count)

-- while user u has no turn, a user who comes after u has none
none_later : (u v cursor : ℕ) (xs : List ℕ) → IsUser u → IsUser v → cursor ≤ 8 → ahead cursor u < ahead cursor v
    → NoneIsLater u cursor xs → count u xs ≡ 0 → count v xs ≡ 0
none_later u v cursor [] is_u is_v low later turns none = refl
none_later u v cursor (x ∷ xs) is_u is_v low later turns none =
    let still : ahead x u < ahead x v =
    omega (arith, low, later, turns.1 low, (absent u x xs none).0, is_u.0, is_u.1, is_v.0, is_v.1, turns.0.0, turns.0.1) in
    others_count v x xs (λ same. omega (arith, later, turns.1 low, ap (ahead cursor) same))
    ∙ none_later u v x xs is_u is_v turns.0.1 still turns.2 (absent u x xs none).1

-- while user u has no turn, no user has two
one_at_most : (u v cursor : ℕ) (xs : List ℕ) → IsUser u → NoneIsLater u cursor xs → count u xs ≡ 0 → count v xs ≤ 1
one_at_most u v cursor [] is_u turns none = omega arith
one_at_most u v cursor (x ∷ xs) is_u turns none =
    let later : ahead x u < ahead x x = omega (arith, (absent u x xs none).0, is_u.0, is_u.1, turns.0.0, turns.0.1) in
    elim (cases_eq x v) [
      | inl same ↦ omega (arith, first_counts v x xs same, ap (λ y. count y xs) same, none_later u x x xs is_u turns.0 turns.0.1 later turns.2 (absent u x xs none).1)
      | inr other ↦ omega (arith, one_at_most u v x xs is_u turns.2 (absent u x xs none).1, others_count v x xs other)
    ]

-- while user u has no turn, the number of turns is at most the number of users before u
few : (u cursor : ℕ) (xs : List ℕ) → IsUser u → cursor ≤ 8 → NoneIsLater u cursor xs → count u xs ≡ 0 → length xs ≤ ahead cursor u
few u cursor [] is_u low turns none = omega arith
few u cursor (x ∷ xs) is_u low turns none =
    omega (arith, low, turns.1 low, few u x xs is_u turns.0.1 turns.2 (absent u x xs none).1, (absent u x xs none).0, is_u.0, is_u.1, turns.0.0, turns.0.1)

below_eight : (u cursor : ℕ) (xs : List ℕ) → IsUser u → NoneIsLater u cursor xs → count u xs ≡ 0 → length xs < 8
below_eight u cursor [] is_u turns none = omega arith
below_eight u cursor (x ∷ xs) is_u turns none = search (arith, absent, few)

-- ---- the turns of events

-- a slice of the user whose turn it is
abbrev IsTurn : World → UserEvent → Type 0
IsTurn w h = (h.event ≡ Slice) × (next_running w ≡ Some h.user)

cursor_after_turn : (turn : Bool) (u : ℕ) (w : World)
    → (if turn then record w { cursor = u } else w).cursor ≡ (if turn then u else w.cursor)
cursor_after_turn turn u w = search (arith, nat_tests)

-- a turn moves the cursor to its user, and nothing else moves it
cursor_after : (s : Setup) (w : World) (h : UserEvent) (b : Bool) → h.turn ≡ b
    → (after_one s w h).cursor ≡ (if b then h.user else w.cursor)
cursor_after s w h b turn = search (arith, nat_tests, cursor_after_turn)

-- if user u's program is running at each turn, no turn skips u
none_is_later : (s : Setup) (w : World) (hs : List UserEvent) (u : ℕ) → IsUser u → AreInTurn s w hs → RunsAtEachTurn u s w hs
    → NoneIsLater u w.cursor (turn_users hs)
none_is_later s w [] u is_u in_turn running = tt
none_is_later s w (h ∷ hs) u is_u in_turn running =
    search (arith, nat_tests, cursor_after, flag_of, next_comes_first, next_is_user, of_bool, runs, none_is_later s (after_one s w h) hs u is_u in_turn.1 running.1)

-- ---- events in turn

at_each-append : (P : World → UserEvent → Type 0) (s : Setup) (w : World) (one two : List UserEvent)
    → AtEachTurn P s w one → AtEachTurn P s (after_events s w one) two → AtEachTurn P s w (one ++ two)
at_each-append P s w [] two first second = second
at_each-append P s w (h ∷ hs) two first second = (first.0, at_each-append P s (after_one s w h) hs two first.1 second)

at_each-front : (P : World → UserEvent → Type 0) (s : Setup) (w : World) (one two : List UserEvent)
    → AtEachTurn P s w (one ++ two) → AtEachTurn P s w one
at_each-front P s w [] two all = tt
at_each-front P s w (h ∷ hs) two all = (all.0, at_each-front P s (after_one s w h) hs two all.1)

at_each-rest : (P : World → UserEvent → Type 0) (s : Setup) (w : World) (one two : List UserEvent)
    → AtEachTurn P s w (one ++ two) → AtEachTurn P s (after_events s w one) two
at_each-rest P s w [] two all = all
at_each-rest P s w (h ∷ hs) two all = at_each-rest P s (after_one s w h) hs two all.1

granted_in_turn : (s : Setup) (n : ℕ) (w : World) → AreInTurn s w (granted s n w)
unfolding granted
granted_in_turn s zero w = tt
granted_in_turn s (suc n) w =
    of_option (next_running w) (λ o. AreInTurn s w (option_map_or (λ u. slice_of u true ∷ granted s n (after_one s w (slice_of u true))) o []))
    (λ next. tt) (λ u next. (λ _. (refl, next), granted_in_turn s n (after_one s w (slice_of u true))))

pub grants_are_in_turn : GrantsAreInTurn
grants_are_in_turn s w h = search (arith, nat_tests, false≢true, granted_in_turn, of_either, runs)

events_in_turn : (s : Setup) (w : World) (k : Kind) → AreInTurn s w (events_of s w k)
events_in_turn s w k = search (arith, nat_tests, false≢true, grants_are_in_turn)

lines_in_turn : (s : Setup) (w : World) (all : List (List ℕ)) → AreInTurn s w (schedule s w all)
unfolding world_after
lines_in_turn s w [] = tt
lines_in_turn s w (line ∷ lines) = search (at_each-append, events_in_turn, lines_in_turn s (world_after s w line) lines)

pub scripts_are_in_turn : ScriptsAreInTurn
scripts_are_in_turn s w script = lines_in_turn s w (pieces script)

-- ---- the laws

pub nobody_has_two_turns : NobodyHasTwoTurns
nobody_has_two_turns s w hs u v low high in_turn running none = search (arith, nat_tests, none_is_later, one_at_most, turns_of_are)

pub each_running_user_has_a_turn : EachRunningUserHasATurn
each_running_user_has_a_turn s w hs u low high in_turn running eight = search (arith, below_eight, cases_eq, none_is_later, turns_are, turns_of_are)

pub one_turn_between_turns : OneTurnBetweenTurns
one_turn_between_turns s w script before between later u v split none running =
    let rest : List UserEvent = between ++ slice_of u true ∷ later in
    let all : AreInTurn s w (before ++ slice_of u true ∷ rest) = subst (AreInTurn s w) split (scripts_are_in_turn s w script) in
    let here : World = after_events s w before in
    let user = subst IsUserIfAny ((at_each-rest IsTurn s w before (slice_of u true ∷ rest) all).0 refl).1 (next_is_user here.cursor (map runs here.parts)) in
    let joined : AreInTurn s w ((before ++ (slice_of u true ∷ [])) ++ rest) = subst (AreInTurn s w) (sym (append_assoc before (slice_of u true ∷ []) rest)) all in
    let after_mine = at_each-rest IsTurn s w (before ++ (slice_of u true ∷ [])) rest joined in
    let in_turn = at_each-front IsTurn s (after_events s w (before ++ (slice_of u true ∷ []))) between (slice_of u true ∷ later) after_mine in
    nobody_has_two_turns s (after_events s w (before ++ (slice_of u true ∷ []))) between u v user.0 user.1 in_turn running none

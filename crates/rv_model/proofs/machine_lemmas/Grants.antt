-- The operator grants slices to users only, and the replies to the operator contain no newline.
use Rattle.std.proofs.Common.{ℕ, zero, suc, ◌-◌, ◌≤◌, List, [], ◌∷◌, ◌++◌, Bool, true, false, Option, Some, None, refl, arith}
use Rattle.std.specs.Prelude.{drop, take, find, map, codes, slice_index_or, unwrap_or}
use Rattle.std.specs.Option.{option_map_or}
use Rattle.std.proofs.lemmas.Bool.Decides.{nat_tests}
use Rattle.rv_model.specs.declared.machine.run_state.RunState.{RunState}
use Rattle.rv_model.specs.declared.machine.run_state.RunState.TheVariants.{Absent}
use Rattle.rv_model.specs.declared.machine.stats.Stats.{Stats}
use Rattle.rv_model.specs.commands.Operator.{OperatorParsed, granted_line, run_state_word, listed_user, list_line, stats_line}
use Rattle.rv_model.specs.machine.Grants.{turns_after, next_user, runs, next_running, slice_of, granted, grants_of, run_state, operator_line}
use Rattle.rv_model.specs.machine.Setup.{users, Setup}
use Rattle.rv_model.specs.machine.World.{World, UserEvent, after_one}
use Rattle.rv_model.proofs.text_lemmas.Newlines.{IsLine}
use Rattle.rv_model.proofs.command_lemmas.Operator.{ParsedNamesUser}
use Rattle.rv_model.proofs.command_lemmas.Printing.{no_newline_in_refusal}
use Rattle.rv_model.proofs.Choices.{of_either, of_option}
use Rattle.rv_model.proofs.text_lemmas.Pieces.{Piece, ◌▸◌, number, flat_map_line}

-- the number of a user
abbrev pub IsUser : ℕ → Type 0
IsUser u = (1 ≤ u) × (u ≤ 8)

abbrev All : List ℕ → Type 0
All [] = Unit {0}
All (u ∷ us) = IsUser u × All us

all-append : (xs ys : List ℕ) → All xs → All ys → All (xs ++ ys)
all-append [] ys h k = k
all-append (x ∷ xs) ys h k = (h.0, all-append xs ys h.1 k)

all-take : (n : ℕ) (xs : List ℕ) → All xs → All (take n xs)
all-take zero xs h = tt
all-take (suc n) [] h = tt
all-take (suc n) (x ∷ xs) h = (h.0, all-take n xs h.1)

all-drop : (n : ℕ) (xs : List ℕ) → All xs → All (drop n xs)
all-drop zero xs h = h
all-drop (suc n) [] h = tt
all-drop (suc n) (x ∷ xs) h = all-drop n xs h.1

all_users : All users
all_users = search arith

abbrev pub IsUserIfAny : Option ℕ → Type 0
IsUserIfAny None = Unit {0}
IsUserIfAny (Some u) = IsUser u

found : (p : ℕ → Bool) (xs : List ℕ) → All xs → IsUserIfAny (find p xs)
found p [] h = tt
found p (x ∷ xs) h = of_either IsUserIfAny (p x) (Some x) (find p xs) h.0 (found p xs h.1)

-- the next turn, if any, is that of a user
pub next_is_user : (cursor : ℕ) (flags : List Bool) → IsUserIfAny (next_user cursor flags)
unfolding next_user
next_is_user cursor flags =
    found (λ u. slice_index_or flags (u - 1) false) (turns_after cursor)
    (all-append (drop cursor users) (take cursor users) (all-drop cursor users all_users) (all-take cursor users all_users))

-- all events are those of users
abbrev pub AreUsers : List UserEvent → Type 0
AreUsers [] = Unit {0}
AreUsers (h ∷ hs) = (1 ≤ h.user) × (h.user ≤ 8) × AreUsers hs

pub granted_to_users : (s : Setup) (n : ℕ) (w : World) → AreUsers (granted s n w)
unfolding granted
granted_to_users s zero w = tt
granted_to_users s (suc n) w =
    of_option (next_running w)
    (λ o. IsUserIfAny o → AreUsers (option_map_or (λ u. slice_of u true ∷ granted s n (after_one s w (slice_of u true))) o []))
    (λ e h. tt) (λ u e h. (h.0, h.1, granted_to_users s n (after_one s w (slice_of u true)))) (next_is_user w.cursor (map runs w.parts))

pub grants_to_users : (s : Setup) (w : World) (r : OperatorParsed) → ParsedNamesUser r → AreUsers (grants_of s w r)
grants_to_users s w r named = search (arith, nat_tests, granted_to_users, of_either, runs)

-- ---- replies to the operator

no_newline_in_granted_line : (n : ℕ) → IsLine (granted_line n)
unfolding granted_line
no_newline_in_granted_line n = let word : Piece = (codes "granted ", refl) in (word ▸ number n).1

no_newline_in_listed_user : (run_states : List RunState) (u : ℕ) → IsLine (listed_user run_states u)
unfolding listed_user
no_newline_in_listed_user run_states u =
    let run_state : RunState = slice_index_or run_states (u - 1) Absent in
    ((codes " ", refl) ▸ number u ▸ (codes ":", refl) ▸ (run_state_word run_state, (search (arith, nat_tests)))).1

no_newline_in_list_line : (run_states : List RunState) → IsLine (list_line run_states)
unfolding list_line
no_newline_in_list_line run_states = search (flat_map_line, no_newline_in_listed_user)

no_newline_in_stats_line : (stats : Stats) → IsLine (stats_line stats)
unfolding stats_line
no_newline_in_stats_line stats =
    ((codes "saves ", refl) ▸ number stats.saves ▸ (codes " restores ", refl) ▸ number stats.restores ▸ (codes " inits ", refl) ▸ number stats.inits
    ▸ (codes " owner ", refl) ▸ number (unwrap_or stats.owner 0)).1

pub no_newline_in_operator_line : (s : Setup) (w : World) (r : OperatorParsed) → IsLine (operator_line s w r)
no_newline_in_operator_line s w r =
    search (arith, nat_tests, no_newline_in_granted_line, no_newline_in_list_line, no_newline_in_refusal, no_newline_in_stats_line)

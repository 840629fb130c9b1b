-- Fairness of slices in turn: whose turn it is each time, and that no user with a running program waits for ever.
use Rattle.std.specs.Prelude.{ℕ, ◌≡◌, ◌≤◌, ◌==◌, ◌&&◌, true, List, [], ◌∷◌, ◌++◌, length, filter, Some}
use Rattle.rv_model.specs.commands.Operator.{OperatorParsed}
use Rattle.rv_model.specs.machine.Grants.{runs, next_running, slice_of, grants_of}
use Rattle.rv_model.specs.machine.World.{Slice, World, UserEvent, after_one, after_events, user_machine}
use Rattle.rv_model.specs.machine.Script.{schedule}
use Rattle.rv_model.specs.machine.Setup.{Setup, user_count}
use Rattle.rv_model.specs.text.Lines.{pieces}

-- ---- turns

-- P holds for each turn among these events and the world before it
abbrev pub AtEachTurn : (World → UserEvent → Type 0) → Setup → World → List UserEvent → Type 0
AtEachTurn P setup w [] = Unit {0}
AtEachTurn P setup w (h ∷ hs) = (h.turn ≡ true → P w h) × AtEachTurn P setup (after_one setup w h) hs

-- each turn is a slice of the user who has the next turn in the world before it
abbrev pub AreInTurn : Setup → World → List UserEvent → Type 0
AreInTurn = AtEachTurn (λ w h. (h.event ≡ Slice) × (next_running w ≡ Some h.user))

-- the user's program is running at each turn of any user
abbrev pub RunsAtEachTurn : ℕ → Setup → World → List UserEvent → Type 0
RunsAtEachTurn u = AtEachTurn (λ w h. runs (user_machine u w) ≡ true)

-- number of turns of a user
abbrev pub turns_of : ℕ → List UserEvent → ℕ
turns_of u hs = length (filter (λ h. h.turn && h.user == u) hs)

-- ---- laws

-- While a user whose program runs at each turn has no turn, every other user has at most one.
abbrev pub NobodyHasTwoTurns : Type 0
NobodyHasTwoTurns = (setup : Setup) (w : World) (hs : List UserEvent) (u v : ℕ) → 1 ≤ u → u ≤ user_count
    → AreInTurn setup w hs → RunsAtEachTurn u setup w hs → turns_of u hs ≡ 0 → turns_of v hs ≤ 1

-- So a user whose program runs at each turn has at least one turn, if there are at least `user_count` turns.
abbrev pub EachRunningUserHasATurn : Type 0
EachRunningUserHasATurn = (setup : Setup) (w : World) (hs : List UserEvent) (u : ℕ) → 1 ≤ u → u ≤ user_count
    → AreInTurn setup w hs → RunsAtEachTurn u setup w hs → user_count ≤ length (filter (λ h. h.turn) hs) → 1 ≤ turns_of u hs

-- The slices of an operator's command are in turn, in every world.
abbrev pub GrantsAreInTurn : Type 0
GrantsAreInTurn = (setup : Setup) (w : World) (parsed : OperatorParsed) → AreInTurn setup w (grants_of setup w parsed)

-- All events of a script are in turn.
abbrev pub ScriptsAreInTurn : Type 0
ScriptsAreInTurn = (setup : Setup) (w : World) (script : List ℕ) → AreInTurn setup w (schedule setup w (pieces script))

-- Between two consecutive turns of a user in a script, every other user has at most one turn, if the first user's program runs at each
-- turn in between. Other events in between don't matter.
abbrev pub OneTurnBetweenTurns : Type 0
OneTurnBetweenTurns = (setup : Setup) (w : World) (script : List ℕ) (before between later : List UserEvent) (u v : ℕ)
    → schedule setup w (pieces script) ≡ before ++ slice_of u true ∷ (between ++ slice_of u true ∷ later)
    → turns_of u between ≡ 0
    → RunsAtEachTurn u setup (after_events setup w (before ++ slice_of u true ∷ [])) between
    → turns_of v between ≤ 1

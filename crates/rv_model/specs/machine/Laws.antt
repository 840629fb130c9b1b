-- Laws of isolation: a user's lines in the output depend on that user's machine alone.
use Rattle.std.specs.Prelude.{ℕ, ◌≡◌, ◌≤◌, List, [], ◌∷◌, length}
use Rattle.rv_model.specs.machine.World.{solo_from, solo, end_of}
use Rattle.rv_model.specs.machine.Script.{World, UserEvent, after_one, printed_by_events, whole_from, whole, after_script, own_from, own, lines, user_machine}
use Rattle.rv_model.specs.machine.Setup.{Setup, user_count}

-- For all machines of the users and all scripts, a user's lines in the output are exactly the lines that the user's machine prints alone.
-- Alone, it executes the user's own commands and slices, in the same order.
abbrev pub EachUserAlone : Type 0
EachUserAlone = (setup : Setup) (w : World) (script : List ℕ) (u : ℕ) → length w.parts ≡ user_count → 1 ≤ u → u ≤ user_count
    → lines u (whole_from setup w script) ≡ solo_from setup (user_machine u w) (own_from setup u w script)

-- The same for new machines: every user is absent at the start.
abbrev pub EachNewUserAlone : Type 0
EachNewUserAlone = (setup : Setup) (script : List ℕ) (u : ℕ) → 1 ≤ u → u ≤ user_count
    → lines u (whole setup script) ≡ solo setup (own setup u script)

-- After the script, the user's machine is in the same state as if it had run alone.
abbrev pub EachUserEndsAlone : Type 0
EachUserEndsAlone = (setup : Setup) (w : World) (script : List ℕ) (u : ℕ) → length w.parts ≡ user_count → 1 ≤ u → u ≤ user_count
    → user_machine u (after_script setup w script) ≡ end_of setup (user_machine u w) (own_from setup u w script)

-- So two scripts with the same commands and slices for a user print the same lines for that user, whatever the other users do.
abbrev pub OthersChangeNothing : Type 0
OthersChangeNothing = (setup : Setup) (one two : List ℕ) (u : ℕ) → 1 ≤ u → u ≤ user_count → own setup u one ≡ own setup u two
    → lines u (whole setup one) ≡ lines u (whole setup two)

-- If a user's machines in two worlds are equal, an event of that user prints the same lines in both, and leaves equal machines of that
-- user. The rest of the two worlds may differ.
abbrev pub EqualPartsAnswerAlike : Type 0
EqualPartsAnswerAlike =
    (setup : Setup) (one two : World) (h : UserEvent) → 1 ≤ h.user → h.user ≤ user_count → length one.parts ≡ user_count
    → length two.parts ≡ user_count → user_machine h.user one ≡ user_machine h.user two
    → (printed_by_events setup one (h ∷ []) ≡ printed_by_events setup two (h ∷ []))
    × (user_machine h.user (after_one setup one h) ≡ user_machine h.user (after_one setup two h))

-- No script changes the number of machines.
abbrev pub MachinesStayEight : Type 0
MachinesStayEight = (setup : Setup) (w : World) (script : List ℕ)
    → length w.parts ≡ user_count → length (after_script setup w script).parts ≡ user_count

-- A refusal changes nothing. A printed line is a refusal if its reply begins with the letter E (byte 45 in hexadecimal), as in `1 E05`.
-- The reply follows the user's digit or the star and a space.
use Rattle.std.specs.Prelude.{ℕ, ◌≡◌, true, List, drop, map, slice_index}
use Rattle.std.specs.List.{Any}
use Rattle.rv_model.specs.declared.commands.refusal.Refusal.{Refusal}
use Rattle.rv_model.specs.commands.Printing.{refused}
use Rattle.rv_model.specs.machine.World.{Slice, World, UserEvent, after_one, outcome_of}
use Rattle.rv_model.specs.machine.Script.{printed_by_line, world_after}
use Rattle.rv_model.specs.machine.Setup.{Setup}
use Rattle.rv_model.specs.text.Lines.{pieces}

-- a reply is a refusal
abbrev pub IsRefusal : List ℕ → Type 0
IsRefusal answer = slice_index answer 0 ≡ 69

-- ---- the laws

-- The code of each reason is such a reply.
abbrev pub ReasonsAreRefusals : Type 0
ReasonsAreRefusals = (reason : Refusal) → IsRefusal (refused reason)

-- An event whose reply is a refusal leaves the world unchanged: the machines of all users, the cursor, and the vector unit with its
-- counts. A turn is a slice, as in `AreInTurn`.
abbrev pub RefusedUserEventsChangeNothing : Type 0
RefusedUserEventsChangeNothing = (setup : Setup) (w : World) (h : UserEvent) → (h.turn ≡ true → h.event ≡ Slice)
    → Any IsRefusal (outcome_of setup w h).lines → after_one setup w h ≡ w

-- So does a line of a script, of any user or of the operator, that prints a refusal after a digit or star and a space.
abbrev pub RefusedLinesChangeNothing : Type 0
RefusedLinesChangeNothing = (setup : Setup) (w : World) (line : List ℕ)
    → Any IsRefusal (map (λ answer. drop 2 answer) (pieces (printed_by_line setup w line))) → world_after setup w line ≡ w

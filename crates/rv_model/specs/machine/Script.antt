-- The effect of a script on all users' machines: the user of each line, the events in order, the whole output, and one user's part of
-- each.
use Rattle.std.specs.Prelude.{ℕ, ◌+◌, ◌-◌, ◌==◌, ◌&&◌, nat_lt, nat_le, false, List, [], ◌∷◌, ◌++◌, length, drop, map, filter, if◌then◌else◌, slice_index, codes}
use Rattle.rv_model.specs.commands.Operator.{operator_parse}
use Rattle.rv_model.specs.machine.Grants.{grants_of, operator_line}
use Rattle.rv_model.specs.machine.World.{Event, Command}
use Rattle.rv_model.specs.machine.Setup.{Setup, user_count}
unfoldable pub use Rattle.rv_model.specs.machine.World.{new_world}
pub use Rattle.rv_model.specs.machine.World.{World, with_unit, UserEvent, outcome_of, unit_after, after_one, after_events, printed_by_events, user_machine, with_user_machine}
use Rattle.rv_model.specs.text.Lines.{text, pieces}

-- the kind of a line: empty, too long, without a valid prefix, the operator's, or a user's
pub data Kind : Type 0 where
  Empty : Kind
  Long : Kind
  Bad : Kind
  Operator : List ℕ → Kind
  Of : ℕ → List ℕ → Kind

-- the kind of a line of at most 1,024 bytes, by its first two bytes: a user's digit or a star, and a space
abbrev pub prefixed : List ℕ → Kind
prefixed [] = Empty
prefixed (d ∷ []) = Bad
prefixed (d ∷ s ∷ rest) =
    if s == 32 then (if d == 42 then Operator rest else if nat_le 49 d && nat_le d (48 + user_count) then Of (d - 48) rest else Bad)
    else Bad

unfoldable pub kind_of : List ℕ → Kind
kind_of line = if nat_lt 1024 (length line) then Long else prefixed line

-- a user's own command
abbrev pub commands : ℕ → List ℕ → UserEvent
commands u line = record { user = u; event = Command line; turn = false }

-- the events of a line
abbrev pub events_of : Setup → World → Kind → List UserEvent
events_of setup w (Operator line) = grants_of setup w (operator_parse line)
events_of setup w (Of u line) = commands u line ∷ []
events_of setup w _ = []

-- the output of a line after the star
unfoldable pub common : Setup → World → Kind → List (List ℕ)
common setup w Long = codes "E02" ∷ []
common setup w Bad = codes "E01" ∷ []
common setup w (Operator line) = operator_line setup w (operator_parse line) ∷ []
common setup w _ = []

-- the world after a line, and the output of the line
unfoldable pub world_after : Setup → World → List ℕ → World
world_after setup w line = after_events setup w (events_of setup w (kind_of line))

unfoldable pub printed_by_line : Setup → World → List ℕ → List ℕ
printed_by_line setup w line = printed_by_events setup w (events_of setup w (kind_of line)) ++ text 42 (common setup w (kind_of line))

abbrev pub after_all : Setup → World → List (List ℕ) → World
after_all setup w [] = w
after_all setup w (line ∷ lines) = after_all setup (world_after setup w line) lines

abbrev pub printed_by_lines : Setup → World → List (List ℕ) → List ℕ
printed_by_lines setup w [] = []
printed_by_lines setup w (line ∷ lines) = printed_by_line setup w line ++ printed_by_lines setup (world_after setup w line) lines

-- the events of all lines, in order
abbrev pub schedule : Setup → World → List (List ℕ) → List UserEvent
schedule setup w [] = []
schedule setup w (line ∷ lines) = events_of setup w (kind_of line) ++ schedule setup (world_after setup w line) lines

-- the output of a script, and the world after it
unfoldable pub whole_from : Setup → World → List ℕ → List ℕ
whole_from setup w script = printed_by_lines setup w (pieces script)

unfoldable pub after_script : Setup → World → List ℕ → World
after_script setup w script = after_all setup w (pieces script)

-- the output of a script for new machines
abbrev pub whole : Setup → List ℕ → List ℕ
whole setup script = whole_from setup new_world script

-- one user's events of a schedule
abbrev pub mine : ℕ → List UserEvent → List Event
mine u [] = []
mine u (h ∷ hs) = if h.user == u then h.event ∷ mine u hs else mine u hs

-- a user's own commands and slices, in order
unfoldable pub own_from : Setup → ℕ → World → List ℕ → List Event
own_from setup u w script = mine u (schedule setup w (pieces script))

abbrev pub own : Setup → ℕ → List ℕ → List Event
own setup u script = own_from setup u new_world script

-- a user's lines of an output: those whose first byte is the user's digit, with the digit and the space removed
unfoldable pub lines : ℕ → List ℕ → List (List ℕ)
lines u output = map (λ line. drop 2 line) (filter (λ line. slice_index line 0 == 48 + u) (pieces output))

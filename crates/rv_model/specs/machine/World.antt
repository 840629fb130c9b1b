-- One user's machine alone: its events, and the lines that it prints. Then the machines of all users, and their states after one event
-- after another.
use Rattle.std.specs.Prelude.{ℕ, false, List, [], ◌∷◌, ◌++◌, Option, Some, None, if◌then◌else◌, ◌+◌, ◌-◌, Bool, replicate, slice_index_or, slice_set}
use Rattle.rv_model.specs.declared.step.step_end.Stop.{Stop}
use Rattle.rv_model.specs.commands.Commands.{commanded, parse}
use Rattle.rv_model.specs.commands.Printing.{stop_line}
use Rattle.rv_model.specs.machine.UserMachine.{Halted, ticked}
use Rattle.rv_model.specs.machine.Setup.{Setup, user_count}
pub use Rattle.rv_model.specs.machine.UserMachine.{Private, Present, Outcome, replies}
use Rattle.rv_model.specs.machine.VectorUnit.{VectorUnit, unit_after_uses, unused_unit}
use Rattle.rv_model.specs.text.Lines.{text}

-- the end of a slice: the run continues in the next slice, or the program stopped
abbrev pub slice_ends : Halted → Option Stop → Outcome
slice_ends run None = record { next = Some run.state; lines = []; uses = run.uses }
slice_ends run (Some stop) =
    record (replies (record run.state { running = false }) (stop_line run.state.hart.scalar.pc stop)) { uses = run.uses }

-- the outcome of a slice of `quantum` ticks; it changes nothing unless a program is running
unfoldable pub sliced : ℕ → Private → Outcome
sliced quantum None = record { next = None; lines = []; uses = [] }
sliced quantum (Some p) =
    let run = ticked quantum p in
    if p.running then slice_ends run run.stop else record { next = Some p; lines = []; uses = [] }

-- an event of a machine: a command, as the bytes after its user's digit and a space, or a slice
pub data Event : Type 0 where
  Command : List ℕ → Event
  Slice : Event

unfoldable pub event : Setup → Private → Event → Outcome
event setup p (Command line) = commanded setup.images p (parse line)
event setup p Slice = sliced setup.quantum p

-- the lines that a machine prints when it runs alone
abbrev pub solo_from : Setup → Private → List Event → List (List ℕ)
solo_from setup p [] = []
solo_from setup p (e ∷ es) = (event setup p e).lines ++ solo_from setup (event setup p e).next es

-- the machine at the end of that run
abbrev pub end_of : Setup → Private → List Event → Private
end_of setup p [] = p
end_of setup p (e ∷ es) = end_of setup (event setup p e).next es

-- the lines of a machine that is absent at the start
abbrev pub solo : Setup → List Event → List (List ℕ)
solo setup es = solo_from setup None es

-- the machines of all users in order, the user who had the last turn, and the vector unit
pub record World : Type 0 where
  pub parts : List Private
  pub cursor : ℕ
  pub unit : VectorUnit

-- every user is absent, user 1 has the next turn, and no user has used the vector unit
unfoldable pub new_world : World
new_world = record { parts = replicate user_count None; cursor = user_count; unit = unused_unit }

-- a user's machine
abbrev pub user_machine : ℕ → World → Private
user_machine u w = slice_index_or w.parts (u - 1) None

abbrev pub with_user_machine : ℕ → Private → World → World
with_user_machine u p w = record w { parts = slice_set w.parts (u - 1) p }

-- the world with another state of the vector unit
abbrev pub with_unit : VectorUnit → World → World
with_unit unit w = record w { unit = unit }

-- an event of a user. If `turn` is true, the user has the turn, and the next user's turn follows.
pub record UserEvent : Type 0 where
  pub user : ℕ
  pub event : Event
  pub turn : Bool

-- the outcome for the user's machine
abbrev pub outcome_of : Setup → World → UserEvent → Outcome
outcome_of setup w h = event setup (user_machine h.user w) h.event

-- the vector unit after the event
abbrev pub unit_after : Setup → World → UserEvent → VectorUnit
unit_after setup w h = unit_after_uses h.user (outcome_of setup w h).uses w.unit

-- the world with the cursor at the user, if the user had the turn
abbrev pub with_turn : UserEvent → World → World
with_turn h w = if h.turn then record w { cursor = h.user } else w

-- the world after one event
abbrev pub after_one : Setup → World → UserEvent → World
after_one setup w h = with_turn h (with_unit (unit_after setup w h) (with_user_machine h.user (outcome_of setup w h).next w))

-- the world after several events
abbrev pub after_events : Setup → World → List UserEvent → World
after_events setup w [] = w
after_events setup w (h ∷ hs) = after_events setup (after_one setup w h) hs

-- the output of several events, each line after its user's digit
abbrev pub printed_by_events : Setup → World → List UserEvent → List ℕ
printed_by_events setup w [] = []
printed_by_events setup w (h ∷ hs) = text (48 + h.user) (outcome_of setup w h).lines ++ printed_by_events setup (after_one setup w h) hs

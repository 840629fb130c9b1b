-- The slices that the operator grants: whose turn it is, the slices of a command, and the output of the command.
use Rattle.std.specs.Prelude.{ℕ, zero, suc, ◌-◌, Bool, true, false, List, [], ◌∷◌, ◌++◌, drop, take, find, length, map, Option, Some, None, Ok, Err, if◌then◌else◌, slice_index_or}
use Rattle.std.specs.Option.{option_map_or}
use Rattle.rv_model.specs.declared.commands.operator.OperatorCommand.{OperatorCommand}
use Rattle.rv_model.specs.declared.commands.operator.OperatorCommand.TheVariants.{Slices, Run, List as ListUsers, Stats as ShowStats}
use Rattle.rv_model.specs.declared.machine.run_state.RunState.{RunState}
use Rattle.rv_model.specs.declared.machine.run_state.RunState.TheVariants.{Absent, Stopped, Running}
use Rattle.rv_model.specs.commands.Operator.{OperatorParsed, granted_line, list_line, stats_line}
use Rattle.rv_model.specs.commands.Printing.{refused}
use Rattle.rv_model.specs.machine.World.{Private, Slice, World, UserEvent, after_one, user_machine}
use Rattle.rv_model.specs.machine.Setup.{Setup, users}
use Rattle.rv_model.specs.machine.VectorUnit.{stats_of}

-- ---- whose turn it is

-- the users in the order of their turns after user `cursor` had the last one: first the users after the cursor, then those up to it
abbrev pub turns_after : ℕ → List ℕ
turns_after cursor = drop cursor users ++ take cursor users

-- the first user after the cursor whose flag is set; `flags` has one flag for each user
unfoldable pub next_user : ℕ → List Bool → Option ℕ
next_user cursor flags = find (λ u. slice_index_or flags (u - 1) false) (turns_after cursor)

-- whether a user's program is running
abbrev pub runs : Private → Bool
runs None = false
runs (Some p) = p.running

-- the user who has the next turn, if any program is running
abbrev pub next_running : World → Option ℕ
next_running w = next_user w.cursor (map runs w.parts)

-- ---- slices

-- a slice of a user; `turn` is true if the user has the turn
abbrev pub slice_of : ℕ → Bool → UserEvent
slice_of u turn = record { user = u; event = Slice; turn = turn }

-- at most n slices in turn; fewer only if no program is running any more
unfoldable pub granted : Setup → ℕ → World → List UserEvent
granted setup zero w = []
granted setup (suc n) w =
    let turn : ℕ → UserEvent = λ u. slice_of u true in
    option_map_or (λ u. turn u ∷ granted setup n (after_one setup w (turn u))) (next_running w) []

-- the slices that an operator's command grants
abbrev pub grants : Setup → World → OperatorCommand → List UserEvent
grants setup w (Slices n) = granted setup n w
grants setup w (Run u) = if runs (user_machine u w) then slice_of u false ∷ [] else []
grants setup w _ = []

abbrev pub grants_of : Setup → World → OperatorParsed → List UserEvent
grants_of setup w (Err reason) = []
grants_of setup w (Ok command) = grants setup w command

-- ---- the operator's output

-- the state of a user's program
abbrev pub run_state : Private → RunState
run_state None = Absent
run_state (Some p) = if p.running then Running else Stopped

-- the line that a command prints after the star
abbrev pub operator_line : Setup → World → OperatorParsed → List ℕ
operator_line setup w (Err reason) = refused reason
operator_line setup w (Ok (Slices n)) = granted_line (length (granted setup n w))
operator_line setup w (Ok (Run u)) = granted_line (length (grants setup w (Run u)))
operator_line setup w (Ok ListUsers) = list_line (map run_state w.parts)
operator_line setup w (Ok ShowStats) = stats_line (stats_of w.unit)

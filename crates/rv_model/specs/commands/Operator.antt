-- The operator's commands `slices`, `run`, `list` and `stats`: how a line is parsed, and the lines that they print. Their only refusals are
-- those for an unknown command (E03) and a wrong argument (E04).
use Rattle.std.specs.Prelude.{ℕ, ◌-◌, ◌++◌, decimal, flat_map, slice_index_or, unwrap_or, List, [], ◌∷◌, Option, Result, Err, codes}
use Rattle.rv_model.specs.declared.commands.operator.OperatorCommand.{OperatorCommand}
use Rattle.rv_model.specs.declared.commands.operator.OperatorCommand.TheVariants.{Slices, Run, List as ListUsers, Stats as ShowStats}
use Rattle.rv_model.specs.declared.commands.refusal.Refusal.{Refusal}
use Rattle.rv_model.specs.declared.commands.refusal.Refusal.TheVariants as refusal
use Rattle.rv_model.specs.declared.machine.run_state.RunState.{RunState}
use Rattle.rv_model.specs.declared.machine.run_state.RunState.TheVariants.{Absent, Stopped, Running}
use Rattle.rv_model.specs.declared.machine.stats.Stats.{Stats}
use Rattle.rv_model.specs.commands.Arguments.{number_between}
use Rattle.rv_model.specs.commands.Reading.{done, in_group, meaning_in, one_argument}
use Rattle.rv_model.specs.machine.Setup.{user_count, users}
use Rattle.rv_model.specs.text.Words.{words}

-- ---- slices N, where N is 1 to 1,000 slices; run U, where U is a user's number

-- the number of slices that `slices` or `run` granted
unfoldable pub granted_line : ℕ → List ℕ
granted_line n = codes "granted " ++ decimal n

-- ---- list

-- the state of a user's program
abbrev pub run_state_word : RunState → List ℕ
run_state_word Absent = codes "-"
run_state_word Stopped = codes "stopped"
run_state_word Running = codes "running"

-- a user's number and the state of the user's program, from the states of all users
unfoldable pub listed_user : List RunState → ℕ → List ℕ
listed_user run_states u = codes " " ++ decimal u ++ codes ":" ++ run_state_word (slice_index_or run_states (u - 1) Absent)

unfoldable pub list_line : List RunState → List ℕ
list_line run_states = codes "list" ++ flat_map (listed_user run_states) users

-- ---- stats

-- the numbers of saves, restores and first uses of vector states, and the user whose state is in the vector unit; 0 if there is none
unfoldable pub stats_line : Stats → List ℕ
stats_line stats =
    codes "saves " ++ decimal stats.saves ++ codes " restores " ++ decimal stats.restores ++ codes " inits "
    ++ decimal stats.inits ++ codes " owner " ++ decimal (unwrap_or stats.owner 0)

-- ---- all commands of the operator

-- the command with this name and these arguments; `None` if no command of the operator has the name
abbrev pub operator_named : List ℕ → List (List ℕ) → Option (Option OperatorCommand)
operator_named name args = meaning_in (
    (codes "slices", one_argument Slices (number_between 1 1000) args)
    ∷ (codes "run", one_argument Run (number_between 1 user_count) args)
    ∷ (codes "list", done ListUsers args)
    ∷ (codes "stats", done ShowStats args) ∷ []) name

abbrev pub OperatorParsed : Type 0
OperatorParsed = Result OperatorCommand Refusal

abbrev pub operator_of_words : List (List ℕ) → OperatorParsed
operator_of_words [] = Err refusal.UnknownCommand
operator_of_words (name ∷ args) = in_group (λ command. command) (operator_named name args) (Err refusal.UnknownCommand)

-- the command in a line; `line` excludes the star and the space after it
unfoldable pub operator_parse : List ℕ → OperatorParsed
operator_parse line = operator_of_words (words line)

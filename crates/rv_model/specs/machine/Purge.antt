-- Isolation by a purge: a user's lines don't change if the lines of all other users are removed from a script without `slices`. In any
-- script, lines `run` replace each `slices` first, one for each slice that it grants.
use Rattle.std.specs.Prelude.{ℕ, ◌≡◌, ◌≤◌, ◌==◌, Bool, true, false, not, List, [], ◌∷◌, ◌++◌, map, filter, replicate, Ok, codes, decimal, if◌then◌else◌}
use Rattle.std.specs.List.{join_with_byte, list_any}
use Rattle.rv_model.specs.declared.commands.operator.OperatorCommand.TheVariants.{Slices, Run}
use Rattle.rv_model.specs.commands.Operator.{OperatorParsed, operator_parse}
use Rattle.rv_model.specs.machine.Script.{World, new_world, Kind, Operator, Of, kind_of, events_of, world_after, whole, lines}
use Rattle.rv_model.specs.machine.Setup.{Setup, user_count}
use Rattle.rv_model.specs.text.Lines.{pieces}

-- ---- a script without the lines of other users

-- whether a command of the operator is `run` for another user
abbrev pub runs_other : ℕ → OperatorParsed → Bool
runs_other u (Ok (Run v)) = not (v == u)
runs_other u _ = false

-- whether a line is a command of another user, or a `run` for one. Empty lines, lines without a valid prefix and lines that are too long are
-- no user's; the operator's other lines, refused ones included, name no user.
abbrev pub is_of_other : ℕ → Kind → Bool
is_of_other u (Of v line) = not (v == u)
is_of_other u (Operator line) = runs_other u (operator_parse line)
is_of_other u _ = false

-- lines as a script, with a newline between two lines
abbrev pub script_of : List (List ℕ) → List ℕ
script_of lines = join_with_byte 10 lines

-- the script without the lines of other users
abbrev pub purged : ℕ → List ℕ → List ℕ
purged u script = script_of (filter (λ line. not (is_of_other u (kind_of line))) (pieces script))

-- ---- `slices`, and lines `run` in place of it

-- whether a command of the operator is `slices`
abbrev pub grants_turns : OperatorParsed → Bool
grants_turns (Ok (Slices n)) = true
grants_turns _ = false

-- whether a line is a valid `slices`
abbrev pub is_slices : Kind → Bool
is_slices (Operator line) = grants_turns (operator_parse line)
is_slices _ = false

abbrev pub HasNoSlices : List ℕ → Type 0
HasNoSlices script = list_any (λ line. is_slices (kind_of line)) (pieces script) ≡ false

-- the operator's line that grants a user one slice
abbrev pub run_line : ℕ → List ℕ
run_line u = codes "* run " ++ decimal u

-- the lines in place of a line: for `slices` a `run` for each slice that it grants, in order; for any other line the line itself
abbrev pub line_with_runs : Setup → World → List ℕ → List (List ℕ)
line_with_runs setup w line =
    if is_slices (kind_of line) then map (λ h. run_line h.user) (events_of setup w (kind_of line)) else line ∷ []

abbrev pub lines_with_runs : Setup → World → List (List ℕ) → List (List ℕ)
lines_with_runs setup w [] = []
lines_with_runs setup w (line ∷ lines) = line_with_runs setup w line ++ lines_with_runs setup (world_after setup w line) lines

-- the script with lines `run` in place of each `slices`, for new machines
abbrev pub with_runs : Setup → List ℕ → List ℕ
with_runs setup script = script_of (lines_with_runs setup new_world (pieces script))

-- ---- the laws

-- If a script has no `slices`, a user's lines of the output are those of the script without the lines of all other users.
abbrev pub OthersCanBePurged : Type 0
OthersCanBePurged = (setup : Setup) (script : List ℕ) (u : ℕ) → 1 ≤ u → u ≤ user_count → HasNoSlices script
    → lines u (whole setup (purged u script)) ≡ lines u (whole setup script)

-- So two such scripts print the same lines for a user if they differ only in lines of other users.
abbrev pub OthersCanBeReplaced : Type 0
OthersCanBeReplaced = (setup : Setup) (one two : List ℕ) (u : ℕ) → 1 ≤ u → u ≤ user_count → HasNoSlices one → HasNoSlices two
    → purged u one ≡ purged u two → lines u (whole setup one) ≡ lines u (whole setup two)

-- For any script, each user's lines are those of the script with lines `run` in place of each `slices`.
abbrev pub RunsReplaceSlices : Type 0
RunsReplaceSlices = (setup : Setup) (script : List ℕ) (u : ℕ) → 1 ≤ u → u ≤ user_count
    → lines u (whole setup (with_runs setup script)) ≡ lines u (whole setup script)

-- That script has no `slices`. A script without `slices` is unchanged.
abbrev pub OnlySlicesAreReplaced : Type 0
OnlySlicesAreReplaced = (setup : Setup) (script : List ℕ)
    → HasNoSlices (with_runs setup script) × (HasNoSlices script → with_runs setup script ≡ script)

-- So for any script, a user's lines are those of the script with lines `run` and without the lines of all other users.
abbrev pub OthersCanBePurgedFromAll : Type 0
OthersCanBePurgedFromAll = (setup : Setup) (script : List ℕ) (u : ℕ) → 1 ≤ u → u ≤ user_count
    → lines u (whole setup (purged u (with_runs setup script))) ≡ lines u (whole setup script)

-- ---- examples

-- scripts, each with the script without the lines of all users but user 1
abbrev pub small_purges : List (List ℕ × List ℕ)
small_purges =
    (codes "1 enter\n2 enter\n* run 1\n* run 2\n2 dance\n1 dance\n1 \n", codes "1 enter\n* run 1\n1 dance\n1 \n")
    ∷ (codes "* list\n* stats\n* run 9\n*  run 8 \n* run\n\n9 x\n2\n", codes "* list\n* stats\n* run 9\n* run\n\n9 x\n2\n")
    ∷ (codes "* slices 7\n1 go\n2 go", codes "* slices 7\n1 go")
    ∷ (codes "2 enter" ++ replicate 1018 32 ++ codes "\n2 enter\n", codes "2 enter" ++ replicate 1018 32 ++ codes "\n")
    ∷ (codes "2 enter" ++ replicate 1017 32 ++ codes "\n1 enter", codes "1 enter")
    ∷ (codes "3 go\n4 go", [])
    ∷ ([], [])
    ∷ []

abbrev pub SmallScriptsArePurged : Type 0
SmallScriptsArePurged = map (λ e. purged 1 e.0) small_purges ≡ map (λ e. e.1) small_purges

-- scripts, each with the script with lines `run` in place of `slices`
abbrev pub small_grants : List (List ℕ × List ℕ)
small_grants =
    (codes "1 enter\n3 enter\n3 go\n* slices 1", codes "1 enter\n3 enter\n3 go\n* run 3")
    ∷ (codes "1 enter\n* slices 9\n* slices 1001\n* list\n", codes "1 enter\n* slices 1001\n* list\n")
    ∷ (codes "* slices 9", [])
    ∷ []

abbrev pub SmallScriptsGetRuns : Type 0
SmallScriptsGetRuns = (setup : Setup) → map (λ e. with_runs setup e.0) small_grants ≡ map (λ e. e.1) small_grants

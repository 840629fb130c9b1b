-- Breakpoint commands: `break`, `unbreak` and `breaks`. A user's breakpoints are addresses in ascending order.
use Rattle.std.specs.Prelude.{ℕ, ◌==◌, not, nat_lt, nat_le, List, [], ◌∷◌, ◌++◌, filter, flat_map, length, Option, Some, if◌then◌else◌, codes}
use Rattle.rv_model.specs.declared.commands.breakpoints.BreakpointCommand.{BreakpointCommand}
use Rattle.rv_model.specs.declared.commands.breakpoints.BreakpointCommand.TheVariants.{Break, Unbreak, Breaks}
use Rattle.rv_model.specs.declared.commands.refusal.Refusal.TheVariants as refusal
use Rattle.rv_model.specs.commands.Arguments.{instruction_address}
use Rattle.rv_model.specs.commands.Printing.{listed}
use Rattle.rv_model.specs.commands.Reading.{done, meaning_in, one_argument}
use Rattle.rv_model.specs.machine.UserMachine.{Present, Outcome, refuses, has_breakpoint, replies}

-- the maximum number of breakpoints of a user
abbrev pub breakpoint_limit : ℕ
breakpoint_limit = 16

-- ---- break ADDR

-- the addresses with `addr` inserted in ascending order
unfoldable pub with_address : ℕ → List ℕ → List ℕ
with_address addr addresses = filter (λ a. nat_lt a addr) addresses ++ addr ∷ filter (λ a. nat_lt addr a) addresses

-- set a breakpoint; refused if the user already has 16 breakpoints, or one at this address
abbrev pub sets_breakpoint : ℕ → Present → Outcome
sets_breakpoint addr p =
    if nat_le breakpoint_limit (length p.breakpoints) then refuses (Some p) refusal.BreakpointLimit
    else if has_breakpoint p addr then refuses (Some p) refusal.Breakpoint
    else replies (record p { breakpoints = with_address addr p.breakpoints }) (codes "ok")

-- ---- unbreak ADDR

-- the addresses without `addr`
unfoldable pub without_address : ℕ → List ℕ → List ℕ
without_address addr addresses = filter (λ a. not (a == addr)) addresses

-- remove a breakpoint; refused if there is none at this address
abbrev pub removes_breakpoint : ℕ → Present → Outcome
removes_breakpoint addr p =
    if has_breakpoint p addr
    then replies (record p { breakpoints = without_address addr p.breakpoints }) (codes "ok")
    else refuses (Some p) refusal.Breakpoint

-- ---- breaks

-- the line that `breaks` prints: the addresses in ascending order
unfoldable pub breaks_line : List ℕ → List ℕ
breaks_line addresses = codes "breaks" ++ flat_map listed addresses

-- ---- all commands of the group

-- the command with this name and these arguments; `None` if no command of this group has the name
abbrev pub breakpoints_named : List ℕ → List (List ℕ) → Option (Option BreakpointCommand)
breakpoints_named name args = meaning_in (
    (codes "break", one_argument Break instruction_address args)
    ∷ (codes "unbreak", one_argument Unbreak instruction_address args)
    ∷ (codes "breaks", done Breaks args) ∷ []) name

-- the outcome of a command for a user who has entered
unfoldable pub breakpoint_command : BreakpointCommand → Present → Outcome
breakpoint_command (Break addr) p = sets_breakpoint addr p
breakpoint_command (Unbreak addr) p = removes_breakpoint addr p
breakpoint_command Breaks p = replies p (breaks_line p.breakpoints)

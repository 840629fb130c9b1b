-- The command line, according to clap's own definitions
use Rattle.std.specs.Prelude.{◌≡◌, ◌≢◌, ⊤, ℕ, List, [], Option, Some, None, pos, codes, unwrap_or}
use Rattle.std.specs.Str.Parse.{digits_value, without_leading_plus}
use Rattle.clap.specs.Words.{App, IsAmong, Kinds, Rule, Text, all_of, fault_of, first_of, kind_of, matches_of, new_app, new_rule, one_of, with_rule}
use Rattle.clap.specs.declared.builder.ArgAction.TheVariants.{Append}
use Rattle.clap.specs.declared.builder.value_parser.ValueParser.TheVariants.{Signed}
use Rattle.clap.specs.declared.error.kind.ErrorKind.{ErrorKind}
use Rattle.clap.specs.declared.error.kind.ErrorKind.TheVariants.{DisplayHelp, OutOfMemory}
use Rattle.vec_monitor.specs.declared.command_line.UsageFault.{UsageFault}
use Rattle.vec_monitor.specs.declared.command_line.UsageFault.TheVariants.{Help, Usage, NoMemory}

-- `--quantum N`, N from 1 to 1,000
abbrev pub quantum_rule : Rule
quantum_rule =
    let name = codes "quantum" in
    record (new_rule name) { long = Some name; value_names = 1; parser = Some (Signed (pos 1) (pos 1000)) }

-- `[SCRIPT]`
abbrev pub script_rule : Rule
script_rule = record (new_rule (codes "script")) { value_names = 1 }

-- `[NAME=PATH]...`
abbrev pub image_rule : Rule
image_rule = record (new_rule (codes "image")) { value_names = 1; action = Some Append }

-- `vecmon [--quantum N] [SCRIPT] [NAME=PATH]...`
abbrev pub command_line : App
command_line = with_rule (with_rule (with_rule (new_app (codes "vecmon")) quantum_rule) script_rule) image_rule

-- the arguments that clap assigns to `--quantum`, to SCRIPT and to NAME=PATH; the first of `arguments` is the program's
-- name
abbrev pub quantum_word : List Text → Option Text
quantum_word arguments = one_of (codes "quantum") (matches_of command_line arguments)

abbrev pub script_word : List Text → Option Text
script_word arguments = first_of (codes "script") (matches_of command_line arguments)

abbrev pub image_arguments : List Text → List Text
image_arguments arguments = unwrap_or (all_of (codes "image") (matches_of command_line arguments)) []

-- the number in the argument of `--quantum`, or 100 without this option
abbrev pub IsQuantum : Option Text → ℕ → Type 0
IsQuantum None n = n ≡ 100
IsQuantum (Some word) n = n ≡ digits_value 10 (without_leading_plus word)

-- the kinds of error that clap may return for the arguments; empty if clap accepts them
abbrev pub arguments_fault : List Text → Kinds
arguments_fault arguments = fault_of command_line arguments

-- the usage fault for a kind of clap's errors
abbrev pub IsFaultOf : ErrorKind → UsageFault → Type 0
IsFaultOf kind (Help e) = (kind ≡ DisplayHelp) × (kind_of e ≡ DisplayHelp)
IsFaultOf kind (Usage e) = (kind ≢ DisplayHelp) × (kind ≢ OutOfMemory) × (kind_of e ≡ kind)
IsFaultOf kind NoMemory = kind ≡ OutOfMemory

-- the usage fault contains a clap error of one of these kinds; it is `Help` if and only if the error is a request for
-- help
abbrev pub IsRefusedFor : Kinds → UsageFault → Type 0
IsRefusedFor kinds (Help e) = (kind_of e ≡ DisplayHelp) × IsAmong (kind_of e) kinds
IsRefusedFor kinds (Usage e) = (kind_of e ≢ DisplayHelp) × IsAmong (kind_of e) kinds
IsRefusedFor kinds NoMemory = ⊤

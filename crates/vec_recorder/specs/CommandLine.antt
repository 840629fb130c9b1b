-- The command line, according to clap's own definitions, and the run that it describes
use Rattle.std.specs.Prelude.{◌≡◌, ◌≢◌, ◌^◌, ⊤, ℕ, List, [], Option, Some, None, codes, option_map, unwrap_or}
use Rattle.std.specs.Borrow.{Bor}
use Rattle.clap.specs.Walk.{texts}
use Rattle.clap.specs.Words.{App, IsAmong, Kinds, Rule, Text, all_of, fault_of, first_of, kind_of, matches_of, new_app, new_rule, with_rule}
use Rattle.clap.specs.declared.builder.ArgAction.TheVariants.{Append}
use Rattle.clap.specs.declared.error.kind.ErrorKind.{ErrorKind}
use Rattle.clap.specs.declared.error.kind.ErrorKind.TheVariants.{DisplayHelp, OutOfMemory}
use Rattle.rv_model.specs.commands.Arguments.{number_between, policy_word as policy_of}
use Rattle.rv_model.specs.declared.vector.policy.Policy.{Policy}
use Rattle.rv_model.specs.declared.vector.policy.Policy.TheVariants.{Keep}
use Rattle.vec_recorder.specs.declared.command_line.Options.{Options}
use Rattle.vec_recorder.specs.declared.command_line.UsageFault.{UsageFault}
use Rattle.vec_recorder.specs.declared.command_line.UsageFault.TheVariants.{Help, Usage, NoMemory}

-- an option with a value
abbrev pub option_rule : Text → Rule
option_rule name = record (new_rule name) { long = Some name; value_names = 1 }

-- an option with a value that may be repeated
abbrev pub repeated_rule : Text → Rule
repeated_rule name = record (option_rule name) { action = Some Append }

-- `[IMAGE]`
abbrev pub image_rule : Rule
image_rule = record (new_rule (codes "image")) { value_names = 1 }

-- `vecmon-record [--policy POLICY] [--ticks N] [--memory ADDR:PERMS:FILE]... [--registers FILE] [--counts FILE]
-- [--watch ADDR:LEN]... [--changes FILE] [--log FILE [--from N] [--to N]]
-- [--open SEED [--kinds KIND,...] [--open-from N] [--open-to N] [--open-elements A-B] [--chosen FILE]] [IMAGE]`
abbrev pub command_line : App
command_line =
    let app = new_app (codes "vecmon-record") in
    let initial_machine = with_rule (with_rule (with_rule (with_rule app (option_rule (codes "policy"))) (option_rule (codes "ticks"))) (repeated_rule (codes "memory"))) (option_rule (codes "registers")) in
    let records = with_rule (with_rule (with_rule initial_machine (option_rule (codes "counts"))) (repeated_rule (codes "watch"))) (option_rule (codes "changes")) in
    let log = with_rule (with_rule (with_rule records (option_rule (codes "log"))) (option_rule (codes "from"))) (option_rule (codes "to")) in
    let choices = with_rule (with_rule (with_rule (with_rule (with_rule log (option_rule (codes "open"))) (option_rule (codes "kinds"))) (option_rule (codes "open-from"))) (option_rule (codes "open-to"))) (option_rule (codes "open-elements")) in
    with_rule (with_rule choices (option_rule (codes "chosen"))) image_rule

-- the value that clap assigns to the option with a name, or to IMAGE; the first of `arguments` is the program's name
abbrev pub word_of : Text → List Text → Option Text
word_of name arguments = first_of name (matches_of command_line arguments)

-- all values that clap assigns to an option that may be repeated
abbrev pub arguments_of : Text → List Text → List Text
arguments_of name arguments = unwrap_or (all_of name (matches_of command_line arguments)) []

-- The values of a command line that describe a run.
pub record RunArguments : Type 0 where
  pub policy : Option Text
  pub ticks : Option Text
  pub memory : List Text
  pub registers : Option Text
  pub counts : Option Text
  pub watch : List Text
  pub changes : Option Text
  pub log : Option Text
  pub from : Option Text
  pub to : Option Text
  pub seed : Option Text
  pub kinds : Option Text
  pub open_from : Option Text
  pub open_to : Option Text
  pub open_elements : Option Text
  pub chosen : Option Text
  pub image : Option Text

-- the values that clap parses; the first of `arguments` is the program's name
abbrev pub run_arguments : List Text → RunArguments
run_arguments arguments =
    let one : Text → Option Text = λ name. word_of name arguments in
    record { policy = one (codes "policy"); ticks = one (codes "ticks"); memory = arguments_of (codes "memory") arguments; registers = one (codes "registers"); counts = one (codes "counts"); watch = arguments_of (codes "watch") arguments; changes = one (codes "changes"); log = one (codes "log"); from = one (codes "from"); to = one (codes "to"); seed = one (codes "open"); kinds = one (codes "kinds"); open_from = one (codes "open-from"); open_to = one (codes "open-to"); open_elements = one (codes "open-elements"); chosen = one (codes "chosen"); image = one (codes "image") }

-- the values of parsed options
abbrev pub option_arguments : Options → RunArguments
option_arguments options =
    let text : Bor Text → Text = λ word. word.now in
    record { policy = option_map text options.policy; ticks = option_map text options.ticks; memory = texts options.memory.items; registers = option_map text options.registers; counts = option_map text options.counts; watch = texts options.watch.items; changes = option_map text options.changes; log = option_map text options.log; from = option_map text options.from; to = option_map text options.to; seed = option_map text options.seed; kinds = option_map text options.kinds; open_from = option_map text options.open_from; open_to = option_map text options.open_to; open_elements = option_map text options.open_elements; chosen = option_map text options.chosen; image = option_map text options.image }

-- the policy of an option's value, if it is valid; without a value, agnostic elements are preserved
abbrev pub policy_or_default : Option Text → Option Policy
policy_or_default None = Some Keep
policy_or_default (Some word) = policy_of word

-- the number of ticks or of an instruction in an option's value, if it is from 1 to 2^63; without a value, the number
-- `other`
abbrev pub number_or_default : ℕ → Option Text → Option ℕ
number_or_default other None = Some other
number_or_default other (Some word) = number_between 1 (2 ^ 63) word

-- the kinds of error that clap may return for the arguments; empty if clap accepts them
abbrev pub arguments_fault : List Text → Kinds
arguments_fault arguments = fault_of command_line arguments

-- the usage fault for a kind of clap's errors
abbrev pub IsFaultOf : ErrorKind → UsageFault → Type 0
IsFaultOf kind (Help e) = (kind ≡ DisplayHelp) × (kind_of e ≡ DisplayHelp)
IsFaultOf kind (Usage e) = (kind ≢ DisplayHelp) × (kind ≢ OutOfMemory) × (kind_of e ≡ kind)
IsFaultOf kind NoMemory = kind ≡ OutOfMemory

-- the usage fault contains a clap error of one of these kinds; it is `Help` if and only if the error is a request for
-- help
abbrev pub IsRefusedFor : Kinds → UsageFault → Type 0
IsRefusedFor kinds (Help e) = (kind_of e ≡ DisplayHelp) × IsAmong (kind_of e) kinds
IsRefusedFor kinds (Usage e) = (kind_of e ≢ DisplayHelp) × IsAmong (kind_of e) kinds
IsRefusedFor kinds NoMemory = ⊤

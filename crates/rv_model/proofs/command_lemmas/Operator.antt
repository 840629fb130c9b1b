-- If a line of the operator names a user, its number is the number of a user.
use Rattle.std.proofs.Common.{ℕ, ◌≤◌, List, Option, Some, None, Ok, Err, arith}
use Rattle.std.specs.Prelude.{option_map}
use Rattle.std.proofs.lemmas.Bool.{leb-true, and_parts}
use Rattle.std.proofs.lemmas.Bool.Decides.{nat_tests}
use Rattle.rv_model.specs.declared.commands.operator.OperatorCommand.{OperatorCommand}
use Rattle.rv_model.specs.declared.commands.refusal.Refusal.TheVariants.{UnknownCommand}
use Rattle.rv_model.specs.declared.commands.operator.OperatorCommand.TheVariants.{Slices, Run}
use Rattle.rv_model.specs.commands.Arguments.{within, number_between}
use Rattle.rv_model.specs.commands.Operator.{OperatorParsed, operator_named, operator_parse}
use Rattle.rv_model.specs.commands.Reading.{done, in_group, one_argument}
use Rattle.rv_model.proofs.Choices.{of_either, of_option, of_test}

abbrev pub NamesUser : OperatorCommand → Type 0
NamesUser (Run u) = (1 ≤ u) × (u ≤ 8)
NamesUser _ = Unit {0}

abbrev NamesUserIfAny : Option OperatorCommand → Type 0
NamesUserIfAny None = Unit {0}
NamesUserIfAny (Some c) = NamesUser c

abbrev pub ParsedNamesUser : OperatorParsed → Type 0
ParsedNamesUser (Err reason) = Unit {0}
ParsedNamesUser (Ok c) = NamesUser c

done_names : (c : OperatorCommand) (ws : List (List ℕ)) → NamesUser c → NamesUserIfAny (done c ws)
done_names c ws h = search (arith, nat_tests)

-- a parsed number, with the arguments after it
abbrev read : List (List ℕ) → Option ℕ → Option (ℕ × List (List ℕ))
read ws o = option_map (λ n. (n, ws)) o

abbrev slices_args : List (List ℕ) → Option OperatorCommand
slices_args ws = one_argument Slices (number_between 1 1000) ws

abbrev run_args : List (List ℕ) → Option OperatorCommand
run_args ws = one_argument Run (number_between 1 8) ws

slices_name : (ws : List (List ℕ)) → NamesUserIfAny (slices_args ws)
unfolding one_argument
slices_name ws = search (arith, nat_tests, done, done_names, of_option)

run_names : (ws : List (List ℕ)) → NamesUserIfAny (run_args ws)
unfolding one_argument
run_names ws = search (arith, nat_tests, and_parts, done, done_names, leb-true, of_option, of_test, within)

abbrev NamedNamesUser : Option (Option OperatorCommand) → Type 0
NamedNamesUser o = ParsedNamesUser (in_group (λ command. command) o (Err UnknownCommand))

with_args : (o : Option OperatorCommand) → NamesUserIfAny o → NamedNamesUser (Some o)
with_args o h = search (arith, nat_tests)

named_names : (name : List ℕ) (args : List (List ℕ)) → NamedNamesUser (operator_named name args)
named_names name args = search (arith, nat_tests, done, done_names, of_either, run_names, slices_name, with_args)

pub parsed_names_user : (line : List ℕ) → ParsedNamesUser (operator_parse line)
unfolding operator_parse
parsed_names_user line = search (arith, nat_tests, named_names)

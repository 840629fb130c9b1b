use Rattle.std.proofs.Common.{refl}
use Rattle.rv_model.specs.text.Digits.{digits_after}
use Rattle.std.specs.Fmt.{digits}
use Rattle.hex.specs.Hex.{encode_with}
use Rattle.rv_model.specs.commands.Commands.{parse, named, of_absent, of_present, command_outcome}
use Rattle.rv_model.specs.commands.Entering.{entering_absent, entering}
use Rattle.rv_model.specs.commands.Memory.{map_args, memory_command}
use Rattle.rv_model.specs.commands.Breakpoints.{breakpoint_command, with_address, without_address, breaks_line}
use Rattle.rv_model.specs.commands.Operator.{operator_parse, granted_line, listed_user, list_line, stats_line}
use Rattle.rv_model.specs.commands.Printing.{refused, hex16, listed}
use Rattle.rv_model.specs.commands.Programs.{asm_args, program_command}
use Rattle.rv_model.specs.commands.Reading.{one_argument, two_arguments}
use Rattle.rv_model.specs.commands.Registers.{vcsr_line, register_command}
use Rattle.rv_model.specs.commands.Running.{running_line, stopped_line, state_line, trace_line, running_command}
use Rattle.rv_model.specs.machine.Grants.{next_user, granted}
use Rattle.rv_model.specs.machine.World.{event, sliced}
use Rattle.rv_model.specs.machine.Script.{common, kind_of, new_world, printed_by_line, whole_from, world_after}
use Rattle.rv_model.specs.scalar.Registers.{initial_scalar}
use Rattle.rv_model.specs.vector.State.{initial_vector}
use Rattle.rv_model.specs.text.Words.{words, trim_start, trim_end, after_word, after_two_words}
use Rattle.rv_model.proofs.machine.laws.small_scripts_print.Goals as goal

pub returns : goal.returns
unfolding one_argument two_arguments after_two_words after_word trim_start trim_end asm_args whole_from printed_by_line world_after kind_of common new_world event parse words named map_args digits_after of_absent of_present entering_absent entering memory_command register_command program_command running_command command_outcome initial_scalar initial_vector refused hex16 encode_with digits state_line trace_line vcsr_line breakpoint_command with_address without_address breaks_line listed running_line stopped_line operator_parse next_user granted granted_line listed_user list_line stats_line sliced
returns c = λ setup. (refl, refl)

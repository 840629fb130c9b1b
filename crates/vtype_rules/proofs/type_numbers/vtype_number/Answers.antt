-- The number of a supported type decodes to that type.
use Rattle.std.proofs.Common.{rules, ◌+◌, ◌*◌}
use Rattle.vtype_rules.proofs.NumberLaws.{number_again}
use Rattle.vtype_rules.proofs.type_numbers.vtype_number.Goals as goal

pub returns-clause-read_back : goal.returns-clause-read_back
returns-clause-read_back c =
    number_again c.args.vtype (c.from.result + c.from-2.result * 8 + c.from-3.result * 64 + c.from-4.result * 128) (search rules)

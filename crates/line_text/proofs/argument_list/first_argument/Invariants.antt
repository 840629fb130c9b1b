use Rattle.std.proofs.Common.{length, ◌≡◌}
use Rattle.rv_model.specs.text.Words.{words}
use Rattle.line_text.proofs.argument_list.first_argument.Given as goal

abbrev pub invariant-loop-rest : goal.invariant-loop-rest
invariant-loop-rest l = words l.rest ≡ words l.line

abbrev pub decreases-loop-rest : goal.decreases-loop-rest
decreases-loop-rest l = length l.rest

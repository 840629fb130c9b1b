use Rattle.std.proofs.Common.{◌≡◌, length}
use Rattle.std.specs.Prelude.{not}
use Rattle.rv_model.specs.text.Words.{is_space, skip_while, after_word}
use Rattle.monitor_cmds.proofs.trimming.after_word.Given as goal

abbrev pub invariant-loop-rest : goal.invariant-loop-rest
invariant-loop-rest l = skip_while (λ b. not (is_space b)) l.rest ≡ after_word l.line

abbrev pub decreases-loop-rest : goal.decreases-loop-rest
decreases-loop-rest l = length l.rest

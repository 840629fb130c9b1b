use Rattle.std.proofs.Common.{◌≡◌, length, reverse}
use Rattle.rv_model.specs.text.Words.{is_space, skip_while}
use Rattle.monitor_cmds.proofs.trimming.trim_end.Given as goal

abbrev pub invariant-loop-line : goal.invariant-loop-line
invariant-loop-line l = skip_while is_space (reverse l.line) ≡ skip_while is_space (reverse l.fn.line)

abbrev pub decreases-loop-line : goal.decreases-loop-line
decreases-loop-line l = length l.line

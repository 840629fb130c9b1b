use Rattle.std.proofs.Common.{ap, append_assoc, codes, ◌∙◌, ◌++◌, List, ℕ}
use Rattle.rv_model.specs.commands.Printing.{hex16}
use Rattle.rv_model.specs.commands.Running.{running_line}
use Rattle.vec_recorder.proofs.record_lines.push_running.Goals as goal

pub returns-clause-text : goal.returns-clause-text
unfolding running_line
returns-clause-text c = c.push_hex16.ensures.text ∙ (ap (λ (l : List ℕ). l ++ hex16 c.args.pc) c.push.ensures ∙ append_assoc c.args.reply.now (codes "running pc=") (hex16 c.args.pc))

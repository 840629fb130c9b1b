use Rattle.commit_log.proofs.Kept.{line_added}
use Rattle.commit_log.proofs.log.add_line.Goals as goal

pub returns-clause-printed : goal.returns-clause-printed
returns-clause-printed g c = λ instr word s finds retires. line_added g.K.Sink.took _ _ _ _ _ _ c.in_ok-make_room.ensures.printed (c.push_line.ensures.text instr word s finds retires)

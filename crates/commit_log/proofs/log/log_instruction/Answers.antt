use Rattle.std.proofs.Common.{◌∙◌, refl, sym}
use Rattle.std.proofs.lemmas.Result.{on_ok_weaker}
use Rattle.recording.specs.Machines.{state_of}
use Rattle.commit_log.proofs.Kept.{line_kept, none_kept}
use Rattle.commit_log.proofs.log.log_instruction.Goals as goal

pub returns-then-not-has_line-clause-logged : goal.returns-then-not-has_line-clause-logged
returns-then-not-has_line-clause-logged g c = λ before found ticks prepared made.
    none_kept g.K.Sink.took before c.args.log.now found (state_of g.M.UserBytes.memory c.args.machine.now) c.args.end ticks prepared made g.met.K.Sink.took_none
    (sym c.has_line.ensures ∙ c.if-not-has_line.true)

pub returns-clause-logged : goal.returns-clause-logged
returns-clause-logged g c =
    on_ok_weaker c.add_line.result
    (λ printed. λ before found ticks prepared made. line_kept g.K.Sink.took before c.args.log.now found (state_of g.M.UserBytes.memory c.args.machine.now) c.args.end ticks prepared made _
    (sym c.has_line.ensures ∙ c.if-not-has_line.false) refl refl printed)
    c.add_line.ensures.printed

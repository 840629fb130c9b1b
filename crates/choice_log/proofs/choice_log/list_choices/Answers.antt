use Rattle.std.proofs.Common.{◌∙◌, refl, sym}
use Rattle.std.proofs.lemmas.Result.{on_ok_weaker}
use Rattle.recording.specs.Machines.{state_of}
use Rattle.choice_log.proofs.Kept.{lines_kept, none_kept}
use Rattle.choice_log.proofs.choice_log.list_choices.Goals as goal

pub returns-then-not-has_run-clause-listed : goal.returns-then-not-has_run-clause-listed
returns-then-not-has_run-clause-listed g c = λ before found ticks prepared made.
    none_kept g.K.Sink.took before c.args.log.now found (state_of g.M.UserBytes.memory c.args.machine.now) c.args.end ticks prepared made g.met.K.Sink.took_none
    (sym c.has_run.ensures ∙ c.if-not-has_run.true)

pub returns-clause-listed : goal.returns-clause-listed
returns-clause-listed g c =
    on_ok_weaker c.write_lines.result
    (λ printed. λ before found ticks prepared made. lines_kept g.K.Sink.took before c.args.log.now found (state_of g.M.UserBytes.memory c.args.machine.now) c.args.end ticks prepared made _
    (sym c.has_run.ensures ∙ c.if-not-has_run.false) refl refl printed)
    c.write_lines.ensures.lines

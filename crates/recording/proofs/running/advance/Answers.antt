use Rattle.std.proofs.Common.{◌∙◌, ap, sym}
use Rattle.devices.proofs.Moves.{moved, on_err}
use Rattle.rv_model.specs.step.Hart.{Stepped}
use Rattle.recording.specs.Machines.{state_of}
use Rattle.recording.proofs.Runs.{advanced, none_put_out, same_put_out}
use Rattle.recording.proofs.running.advance.Goals as goal

pub returns-clause-machine : goal.returns-clause-machine
returns-clause-machine g c =
    advanced _ _ _ _ _ _ _ c.step-end.ensures.model
    (c.choose.ensures.state c.args.chooser.now (state_of g.M.UserBytes.memory c.args.machine.now) _ c.before_step-2.ensures.prepared c.step-end.ensures.model)
    c.in_ok-take_output.ensures.state

pub returns-clause-recorded : goal.returns-clause-recorded
returns-clause-recorded g c =
    c.in_ok-after_step.ensures.recorded c.args.recorder.now (state_of g.M.UserBytes.memory c.args.machine.now) c.in_ok-before_step.ensures.prepared c.step-end.ensures.model

pub returns-clause-output : goal.returns-clause-output
returns-clause-output g c =
    moved g.K.Sink.took _ _ _ _ (ap (λ output. output.items) c.choose.ensures.output ∙ ap (λ (o : Stepped). o.state.output) (sym c.step-end.ensures.model)) c.in_ok-take_output.ensures.output

pub returns-in_err-before_step-clause-part : goal.returns-in_err-before_step-clause-part
returns-in_err-before_step-clause-part g c = on_err c.from_residual.result (none_put_out g.K.Sink.took c.args.sink.now _ (g.met.K.Sink.took_none c.args.sink.now))

pub returns-in_err-after_step-clause-part : goal.returns-in_err-after_step-clause-part
returns-in_err-after_step-clause-part g c = on_err c.from_residual-in_err-after_step.result (none_put_out g.K.Sink.took c.args.sink.now _ (g.met.K.Sink.took_none c.args.sink.now))

pub returns-in_err-take_output-clause-part : goal.returns-in_err-take_output-clause-part
returns-in_err-take_output-clause-part g c =
    on_err c.from_residual-in_err-take_output.result
    (same_put_out g.K.Sink.took _ _ _ _ (ap (λ output. output.items) c.choose.ensures.output ∙ ap (λ (o : Stepped). o.state.output) (sym c.step-end.ensures.model)) c.in_err-take_output.ensures.part)

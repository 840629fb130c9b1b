use Rattle.std.proofs.Common.{◌∙◌, ap, refl, List, ℕ, Option}
use Rattle.std.proofs.lemmas.Result.{on_ok_weaker}
use Rattle.monitor_machine.specs.MachineState.{MachineState}
use Rattle.monitor_script.proofs.DeviceLaws.{each_end}
use Rattle.monitor_script.proofs.Prefixes.{cut_short_begins, ended_begin, first_begin}
use Rattle.rv_model.specs.machine.Script.{World, whole_from}
use Rattle.either.specs.Either.{either}
use Rattle.vec_monitor.proofs.ProgramRunLaws.{all_was_known, put_out, put_out_all, unread_from}
use Rattle.vec_monitor.proofs.program.run_reader.Goals as goal

pub returns-clause-ran : goal.returns-clause-ran
returns-clause-ran g c = λ new.
    let m : MachineState = c.args.machine.now in
    on_ok_weaker c.run.result
    (λ p. record {
      script = p.0;
      output = p.1.0;
      read = all_was_known (either g.F.Read.remaining g.S.Read.remaining c.args.script.now.reader) _ (either g.F.Read.remaining g.S.Read.remaining c.run.new.source.reader) p.0
          refl p.1.1.0 p.1.1.1.1;
      not_too_long = p.1.1.7;
      taken = p.1.1.2;
      all = p.1.1.5 ∙ ap (λ (w : World). whole_from m.setup w p.0) new;
      each_user = p.1.1.3 new;
    })
    c.run.ensures.headline

pub returns-clause-printed : goal.returns-clause-printed
returns-clause-printed g c = λ new.
    let m : MachineState = c.args.machine.now in
    let known : Option (List ℕ) = either g.F.Read.remaining g.S.Read.remaining c.args.script.now.reader in
    let after : Option (List ℕ) = either g.F.Read.remaining g.S.Read.remaining c.run.new.source.reader in
    let took = λ (printed : List ℕ). g.K.Sink.took c.args.output.now printed c.run.new.sink in
    each_end c.run.result
    (on_ok_weaker c.run.result (put_out_all took m.setup known) (returns-clause-ran g c new))
    (λ e.
    let p = c.run.ensures.after_read e in
    put_out m known after p.0 _ took new p.1.0 p.1.3 (λ rest none. ended_begin m p.0 rest))
    (λ e.
    let p = c.run.ensures.after_too_long e in
    put_out m known after p.0 _ took new p.1.0 p.1.5 (λ rest none. first_begin m 16777216 p.0 rest))
    (λ e.
    let p = c.run.ensures.after_write e in
    put_out m known after p.0 _ took new p.1.0 p.1.1.output (λ rest none. cut_short_begins m p.0 rest _ _ _ p.1.1 (λ end. none end.1)))

pub returns-clause-unread : goal.returns-clause-unread
returns-clause-unread g c =
    unread_from c.run.result _ _ (either g.F.Read.remaining g.S.Read.remaining c.args.script.now.reader) (either g.F.Read.remaining g.S.Read.remaining c.run.new.source.reader)
    c.run.ensures.read
    (λ e.
    let p = c.run.ensures.after_too_long e in
    (p.0, (p.1.0, p.1.2)))

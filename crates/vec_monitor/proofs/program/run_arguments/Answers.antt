use Rattle.std.proofs.Common.{inl, inr, refl, subst}
use Rattle.std.proofs.lemmas.Result.{on_ok_weaker}
use Rattle.clap.specs.Walk.{texts}
use Rattle.clap.specs.Words.{kind_of, IsAmong}
use Rattle.vec_monitor.specs.CommandLine.{arguments_fault, IsRefusedFor}
use Rattle.vec_monitor.proofs.ProgramRunLaws.{ran_arguments, usage_of}
use Rattle.either.specs.Either.{either}
use Rattle.vec_monitor.proofs.program.run_arguments.Goals as goal

pub returns-in-Ok-clause-ran : goal.returns-in-Ok-clause-ran
returns-in-Ok-clause-ran g c =
    let arguments = texts c.args.arguments.now in
    let asked = c.in-Ok.ensures in
    on_ok_weaker c.run_options.result
    (λ ran. inr (ran_arguments (g.R.Inputs.file_bytes c.args.rt.now) (either g.R.File.Read.remaining g.S.Read.remaining c.args.reader.now.reader) arguments _ _ _ _
    (asked.taken refl) asked.quantum asked.script asked.images ran))
    c.run_options.ensures.ran

pub returns-in-Ok-clause-printed : goal.returns-in-Ok-clause-printed
returns-in-Ok-clause-printed g c =
    let arguments = texts c.args.arguments.now in
    let asked = c.in-Ok.ensures in
    elim c.run_options.ensures.printed [
      | inl none ↦ inl none
      | inr ran ↦
          inr (inr (ran_arguments (g.R.Inputs.file_bytes c.args.rt.now) (either g.R.File.Read.remaining g.S.Read.remaining c.args.reader.now.reader) arguments _ _ _ _
          (asked.taken refl) asked.quantum asked.script asked.images ran))
    ]

pub returns-in-Ok-clause-usage : goal.returns-in-Ok-clause-usage
returns-in-Ok-clause-usage g c = usage_of c.run_options.result (texts c.args.arguments.now) _ (c.in-Ok.ensures.taken refl) c.in-Ok.ensures.images c.run_options.ensures.usage

pub returns-in-Ok-write_text-clause-ran : goal.returns-in-Ok-write_text-clause-ran
returns-in-Ok-write_text-clause-ran g c =
    let kinds = arguments_fault (texts c.args.arguments.now) in
    let refused = subst (IsRefusedFor kinds) c.in-Err-Help.field-0-is c.in-Err-Help.ensures.refused in
    inl (record { asked = subst (λ kind. IsAmong kind kinds) refused.0 refused.1; text = c.write_text.ensures.printed.0; taken = c.write_text.ensures.printed.1 })

pub returns-in-Err-Usage-clause-usage : goal.returns-in-Err-Usage-clause-usage
returns-in-Err-Usage-clause-usage g c = λ two.
    let refused = subst (IsRefusedFor (arguments_fault (texts c.args.arguments.now))) c.in-Err-Usage.field-0-is c.in-Err-Usage.ensures.refused in
    inl (kind_of c.in-Err-Usage.text, refused.1, refused.0)

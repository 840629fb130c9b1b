use Rattle.std.proofs.Common.{ap, ap₂, ◌≡◌, ◌∙◌}
use Rattle.std.specs.Prelude.{codes}
use Rattle.std.proofs.lemmas.Result.{IfOk-weaker}
use Rattle.clap.specs.Words.{app_of, new_app, with_rule}
use Rattle.clap.specs.Simple.{app_of_fields}
use Rattle.vec_monitor.proofs.command_line.command.Goals as goal

pub returns : goal.returns
returns c =
    let new_is : app_of c.after_help.result ≡ new_app (codes "vecmon") =
    ap app_of_fields c.after_help.ensures ∙ (ap app_of_fields c.about.ensures ∙ c.new.ensures.app) in
    let first = c.in_ok-arg.ensures.shape c.quantum.ensures.local ∙ ap₂ with_rule new_is c.quantum.ensures.rule in
    let second = c.in_ok-arg-2.ensures.shape c.script.ensures.local ∙ ap₂ with_rule first c.script.ensures.rule in
    IfOk-weaker c.arg-3.result _ _ (λ command added. added.shape c.image.ensures.local ∙ ap₂ with_rule second c.image.ensures.rule) c.arg-3.ensures

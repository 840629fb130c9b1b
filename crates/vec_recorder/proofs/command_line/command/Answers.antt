use Rattle.std.proofs.Common.{ap, ap₂, ◌≡◌, ◌∙◌}
use Rattle.std.specs.Prelude.{codes}
use Rattle.std.proofs.lemmas.Result.{IfOk-weaker}
use Rattle.clap.specs.Words.{app_of, new_app, with_rule}
use Rattle.clap.specs.Simple.{app_of_fields}
use Rattle.vec_recorder.proofs.command_line.command.Goals as goal

pub returns : goal.returns
returns c =
    let new_is : app_of c.after_help.result ≡ new_app (codes "vecmon-record") =
    ap app_of_fields c.after_help.ensures ∙ (ap app_of_fields c.about.ensures ∙ c.new.ensures.app) in
    let first = c.in_ok-arg.ensures.shape c.option.ensures.local ∙ ap₂ with_rule new_is c.option.ensures.rule in
    let second = c.in_ok-arg-2.ensures.shape c.option-2.ensures.local ∙ ap₂ with_rule first c.option-2.ensures.rule in
    let third = c.in_ok-arg-3.ensures.shape c.repeated.ensures.local ∙ ap₂ with_rule second c.repeated.ensures.rule in
    let fourth = c.in_ok-arg-4.ensures.shape c.option-3.ensures.local ∙ ap₂ with_rule third c.option-3.ensures.rule in
    let fifth = c.in_ok-arg-5.ensures.shape c.option-4.ensures.local ∙ ap₂ with_rule fourth c.option-4.ensures.rule in
    let sixth = c.in_ok-arg-6.ensures.shape c.repeated-2.ensures.local ∙ ap₂ with_rule fifth c.repeated-2.ensures.rule in
    let seventh = c.in_ok-arg-7.ensures.shape c.option-5.ensures.local ∙ ap₂ with_rule sixth c.option-5.ensures.rule in
    let eighth = c.in_ok-arg-8.ensures.shape c.option-6.ensures.local ∙ ap₂ with_rule seventh c.option-6.ensures.rule in
    let ninth = c.in_ok-arg-9.ensures.shape c.option-7.ensures.local ∙ ap₂ with_rule eighth c.option-7.ensures.rule in
    let tenth = c.in_ok-arg-10.ensures.shape c.option-8.ensures.local ∙ ap₂ with_rule ninth c.option-8.ensures.rule in
    let eleventh = c.in_ok-arg-11.ensures.shape c.option-9.ensures.local ∙ ap₂ with_rule tenth c.option-9.ensures.rule in
    let twelfth = c.in_ok-arg-12.ensures.shape c.option-10.ensures.local ∙ ap₂ with_rule eleventh c.option-10.ensures.rule in
    let thirteenth = c.in_ok-arg-13.ensures.shape c.option-11.ensures.local ∙ ap₂ with_rule twelfth c.option-11.ensures.rule in
    let fourteenth = c.in_ok-arg-14.ensures.shape c.option-12.ensures.local ∙ ap₂ with_rule thirteenth c.option-12.ensures.rule in
    let fifteenth = c.in_ok-arg-15.ensures.shape c.option-13.ensures.local ∙ ap₂ with_rule fourteenth c.option-13.ensures.rule in
    let sixteenth = c.in_ok-arg-16.ensures.shape c.option-14.ensures.local ∙ ap₂ with_rule fifteenth c.option-14.ensures.rule in
    IfOk-weaker c.arg-17.result _ _ (λ command added. added.shape c.image.ensures.local ∙ ap₂ with_rule sixteenth c.image.ensures.rule) c.arg-17.ensures

use Rattle.std.proofs.Common.{◌≡◌, ◌∙◌, ◌+◌, ◌/◌, ◌%◌, ◌^◌, ◌==◌, Bool, true, false, not, ap, arith, refl, sym}
use Rattle.open_choices.specs.Seeds.{is_chosen}
use Rattle.choice_log.proofs.elements.is_chosen.Goals as goal

twice : (b : Bool) → not (not b) ≡ b
twice true = refl
twice false = refl

pub returns : goal.returns
returns c =
    let seed = c.args.choices.now.seed in
    let number = c.args.choices.now.number in
    let whole : c.bits.result / 2 ^ 0 ≡ c.bits.result = omega arith in
    let here : c.args.e + 0 ≡ c.args.e = omega arith in
    ap (λ n. not (n % 2 == 0)) (sym whole) ∙ ap not (c.bits.ensures 0 (omega arith)) ∙ twice (is_chosen seed number (c.args.e + 0)) ∙ ap (is_chosen seed number) here

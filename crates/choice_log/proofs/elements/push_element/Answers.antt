use Rattle.std.proofs.Common.{◌<◌, ◌≤◌, ◌^◌, ap, arith, codes, decimal, length, length-append}
use Rattle.std.proofs.lemmas.Fmt.{length-decimal-le}
use Rattle.choice_log.specs.ChoiceLines.{spaced}
use Rattle.choice_log.proofs.elements.push_element.Goals as goal

pub returns-clause-bound : goal.returns-clause-bound
returns-clause-bound c =
    let few : c.args.e < 10 ^ 3 = omega (arith, c.requires.element) in
    let fits : c.args.e < 2 ^ 64 = omega (arith, c.requires.element) in
    let digits : length (decimal c.args.e) ≤ 3 = length-decimal-le 3 c.args.e (omega arith) few fits in
    let whole = ap length c.push_spaced.ensures.text in
    omega (arith, digits, whole, length-append c.args.reply.now (spaced c.args.e), length-append (codes " ") (decimal c.args.e))

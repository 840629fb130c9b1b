use Rattle.std.proofs.Common.{ℕ, List, ◌∙◌, ◌++◌, ◌≤◌, ap, arith, drop, length}
use Rattle.std.proofs.lemmas.List.{length-drop, take_all}
use Rattle.commit_log.specs.LineTexts.{highest_first}
use Rattle.commit_log.proofs.Digits.{part_pushed}
use Rattle.commit_log.proofs.numbers.push_register.Goals as goal

pub returns-clause-text : goal.returns-clause-text
returns-clause-text c =
    let bs = c.args.bytes.now in
    let few : length (drop 24 bs) ≤ 8 = omega (arith, length-drop 24 bs, c.requires.size) in
    let last = c.push_8.ensures.text ∙ ap (λ (l : List ℕ). c.args.text.now ++ highest_first l) (take_all 8 (drop 24 bs) few) in
    part_pushed 0 _ _ _ bs (part_pushed 8 _ _ _ bs (part_pushed 16 _ _ _ bs last c.push_8-2.ensures.text) c.push_8-3.ensures.text) c.push_8-4.ensures.text

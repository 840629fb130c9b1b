use Rattle.std.proofs.Common.{ap, ◌∙◌, ◌++◌, ℕ, List, drop, take}
use Rattle.commit_log.proofs.Digits.{behind_zeros}
use Rattle.commit_log.proofs.numbers.push_4.Goals as goal

pub returns-clause-text : goal.returns-clause-text
returns-clause-text c =
    c.push.ensures
    ∙ ap (λ (l : List ℕ). c.args.text.now ++ l) (ap (λ (ds : List ℕ). take 8 (drop 8 ds)) c.digits_of_8.ensures ∙ behind_zeros c.args.bytes.now c.requires.size)

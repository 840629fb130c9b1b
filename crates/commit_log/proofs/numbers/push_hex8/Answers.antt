use Rattle.std.proofs.Common.{ap, ◌∙◌, ◌++◌, ℕ, List, drop, take}
use Rattle.std.specs.Int.{to_be_bytes, w64}
use Rattle.hex.specs.Hex.{encode_lower}
use Rattle.rv_model.specs.commands.Printing.{hex8}
use Rattle.commit_log.proofs.Digits.{low_digits}
use Rattle.commit_log.proofs.numbers.push_hex8.Goals as goal

pub returns-clause-text : goal.returns-clause-text
unfolding hex8
returns-clause-text c =
    c.push.ensures
    ∙ ap (λ (l : List ℕ). c.args.text.now ++ l)
    (ap (λ (ds : List ℕ). take 8 (drop 8 ds)) (c.digits_of_8.ensures ∙ ap encode_lower (c.to_be_bytes.ensures ∙ ap (to_be_bytes w64) c.from.ensures)) ∙ low_digits c.args.number)

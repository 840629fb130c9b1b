use Rattle.std.proofs.Common.{lit<, rules}
use Rattle.std.proofs.lemmas.Iterator.Search.{all_from_yields_List}
use Rattle.std.proofs.lemmas.Iterator.Splits.{YieldsList-from_str_split}
use Rattle.vec_recorder.specs.OpenArguments.{is_kind}
use Rattle.vec_recorder.proofs.open_arguments.are_kinds.Goals as goal

pub returns : goal.returns
returns c =
    all_from_yields_List is_kind _ _ _ c.all.ensures.ran
    (YieldsList-from_str_split 44 c.args.word.now (lit< tt) c.split.ensures.text c.split.ensures.has_more c.split.ensures.pattern) (λ x b q k. search rules)

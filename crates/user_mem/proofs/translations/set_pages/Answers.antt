use Rattle.std.proofs.Common.{arith}
use Rattle.user_mem.proofs.TranslationLaws.{entry_there}
use Rattle.user_mem.proofs.translations.set_pages.Goals as goal

pub put_page-requires-clause-below : goal.put_page-requires-clause-below
put_page-requires-clause-below c = c.requires.below _ _ (entry_there c.args.entries.now c.loop-index.index _ c.requires.sorted (omega arith))

pub put_page-requires-clause-fits : goal.put_page-requires-clause-fits
put_page-requires-clause-fits c = c.requires.fit _ _ (entry_there c.args.entries.now c.loop-index.index _ c.requires.sorted (omega arith))

pub loop-index-preserved : goal.loop-index-preserved
loop-index-preserved c = c.put_page.ensures c.args.entries.now (entry_there c.args.entries.now c.loop-index.index _ c.requires.sorted (omega arith)) c.loop-index.invariant

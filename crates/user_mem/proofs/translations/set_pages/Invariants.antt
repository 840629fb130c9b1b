use Rattle.user_mem.specs.Translations.{AreTranslated}
use Rattle.user_mem.proofs.translations.set_pages.Given as goal

abbrev pub invariant-loop-index : goal.invariant-loop-index
invariant-loop-index l = AreTranslated l.entries l.access l.pages

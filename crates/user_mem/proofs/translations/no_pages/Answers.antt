use Rattle.std.proofs.Common.{refl}
use Rattle.user_mem.proofs.TranslationLaws.{none_translated}
use Rattle.user_mem.proofs.translations.no_pages.Goals as goal

pub returns : goal.returns
returns c = λ entries access. none_translated entries access (record { first = 0; start = 0 }) (record { first = 4096; start = 0 }) refl refl

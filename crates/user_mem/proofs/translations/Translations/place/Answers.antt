use Rattle.user_mem.proofs.translations.Translations.place.Goals as goal

pub returns : goal.returns
returns c = λ entries translates. c.look_up.ensures entries c.args.access (c.pages.ensures entries translates)

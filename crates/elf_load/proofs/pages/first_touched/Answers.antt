use Rattle.std.proofs.Common.{refl}
use Rattle.elf_load.proofs.PageLaws.{touches_none, touches_empty, touched_first, touched_none}
use Rattle.elf_load.proofs.pages.first_touched.Goals as goal

pub returns-then-header-ne-LOAD-clause-first : goal.returns-then-header-ne-LOAD-clause-first
returns-then-header-ne-LOAD-clause-first c = λ q l. touches_none c.args.header q c.if-header-ne-LOAD.true

pub returns-then-header-eq0-clause-first : goal.returns-then-header-eq0-clause-first
returns-then-header-eq0-clause-first c = λ q l. touches_empty c.args.header q c.if-header-eq0.true

pub returns-then-first-last-clause-first : goal.returns-then-first-last-clause-first
returns-then-first-last-clause-first c = touched_first c.args.header c.args.from c.max-first.result _ c.if-header-ne-LOAD.false c.if-header-eq0.false c.max-first.ensures refl c.if-first-last.true

pub returns-else-first-last-clause-first : goal.returns-else-first-last-clause-first
returns-else-first-last-clause-first c = touched_none c.args.header c.args.from c.max-first.result _ c.if-header-eq0.false c.max-first.ensures refl c.if-first-last.false

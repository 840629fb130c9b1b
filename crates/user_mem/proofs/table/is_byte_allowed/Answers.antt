use Rattle.std.proofs.Common.{sym, ◌∙◌}
use Rattle.user_mem.proofs.TableLaws.{allowed_by_entry, allowed_by_none}
use Rattle.user_mem.proofs.table.is_byte_allowed.Goals as goal

pub returns-in-Some : goal.returns-in-Some
returns-in-Some c = λ frames. c.is_permitted.ensures ∙ allowed_by_entry c.args.access frames c.args.entries.now c.args.addr c.in-Some.entry (sym c.locate.ensures ∙ c.in-Some.is)

pub returns-in-None : goal.returns-in-None
returns-in-None c = λ frames. allowed_by_none c.args.access frames c.args.entries.now c.args.addr (sym c.locate.ensures ∙ c.in-None.is)

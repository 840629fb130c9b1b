use Rattle.std.proofs.Common.{sym}
use Rattle.user_mem.proofs.SearchLaws.{entry_at_place, entry_at_gap}
use Rattle.user_mem.proofs.table.locate.Goals as goal

pub returns-in-Ok : goal.returns-in-Ok
returns-in-Ok c = sym (entry_at_place c.args.entries.now c.args.page _ _ c.requires c.in-Ok.ensures.found)

pub returns-in-Err : goal.returns-in-Err
returns-in-Err c = sym (entry_at_gap c.args.entries.now c.args.page _ c.in-Err.ensures.absent)

use Rattle.user_mem.proofs.SearchLaws.{no_entry, entry_at_place, sorted_insert}
use Rattle.user_mem.proofs.FrameLaws.{entry_at-insert, times_used-insert}
use Rattle.user_mem.proofs.table.add_entry.Goals as goal

pub unreachable-requires : goal.unreachable-requires
unreachable-requires c =
    let found = rw c.as_slice.ensures.value at c.in-Ok.ensures.found in
    let there = entry_at_place c.args.table.now.items c.args.entry.page c.in-Ok.field-0 no_entry c.requires.sorted found in
    let absent = c.requires.new_page in cc

pub returns-clause-sorted : goal.returns-clause-sorted
returns-clause-sorted c =
    let gap = rw c.as_slice.ensures.value at c.in-Err.ensures.absent in
    rw c.insert.ensures.items (sorted_insert c.args.table.now.items c.args.entry c.in-Err.place gap c.requires.sorted)

pub returns-clause-looked_up : goal.returns-clause-looked_up
returns-clause-looked_up c = λ p. rw c.insert.ensures.items (entry_at-insert c.args.table.now.items c.in-Err.place c.args.entry p c.requires.new_page)

pub returns-clause-used : goal.returns-clause-used
returns-clause-used c = λ f. rw c.insert.ensures.items (times_used-insert f c.args.table.now.items c.in-Err.place c.args.entry)

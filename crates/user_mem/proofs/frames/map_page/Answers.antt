use Rattle.user_mem.proofs.FrameLaws.{memory_of-page, memory_of-unused_frame}
use Rattle.user_mem.proofs.frames.map_page.Goals as goal

pub returns-clause-mapped : goal.returns-clause-mapped
returns-clause-mapped c =
    memory_of-page c.args.frames.now c.zero_frame.new.frames c.args.table.now.items c.add_entry.new.table.items (record { page = c.args.page; frame = c.args.frame; permissions = c.args.permissions })
    c.add_entry.ensures.looked_up c.zero_frame.ensures.zeros c.zero_frame.ensures.kept c.requires.unused

pub returns-clause-others : goal.returns-clause-others
returns-clause-others c = λ other unused. memory_of-unused_frame c.args.frames.now c.zero_frame.new.frames c.args.frame other c.zero_frame.ensures.kept unused

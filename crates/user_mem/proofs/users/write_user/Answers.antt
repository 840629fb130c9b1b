use Rattle.std.proofs.Common.{◌∙◌, ap, map, List}
use Rattle.rv_model.specs.memory.Memory.{put_bytes}
use Rattle.user_mem.specs.declared.entry.Entry.{Entry}
use Rattle.user_mem.specs.Table.{memory_of}
use Rattle.user_mem.proofs.PoolLaws.{table_fits, table_is_separate, memories_of-written}
use Rattle.user_mem.proofs.ViewLaws.{if_done}
use Rattle.user_mem.proofs.users.write_user.Goals as goal

pub write_pages-requires : goal.write_pages-requires
write_pages-requires c =
    let tables = map (λ t. t.items) c.args.tables.now in
    rw c.user_entries.ensures
    (record {
      sorted = c.requires.pool.1.sorted c.args.user;
      below = c.requires.pool.1.below c.args.user;
      fit = table_fits tables c.requires.pool.0 c.args.frames.now c.args.user c.requires.pool.1 c.requires.user;
      separate = table_is_separate tables c.requires.pool.0 c.args.frames.now c.args.user c.requires.pool.1 c.requires.user;
    })

pub returns-clause-ok : goal.returns-clause-ok
returns-clause-ok c = if_done c.write_pages.result (λ done.
    memories_of-written (map (λ t. t.items) c.args.tables.now) c.requires.pool.0 c.args.frames.now c.write_pages.new.frames c.args.user _ _ c.requires.pool.1 c.requires.user c.user_entries.ensures c.write_pages.ensures.others
    (done ∙ ap (λ (t : List Entry). put_bytes (memory_of c.args.frames.now t) c.args.target.addr c.args.bytes.now) c.user_entries.ensures)) c.write_pages.ensures.ok

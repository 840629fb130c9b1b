use Rattle.std.proofs.Common.{◌∙◌, ap, map, List}
use Rattle.rv_model.specs.memory.Memory.{put_bytes}
use Rattle.user_mem.specs.declared.entry.Entry.{Entry}
use Rattle.user_mem.specs.Table.{memory_of}
use Rattle.user_mem.proofs.PoolLaws.{table_fits, table_is_separate, memories_of-written}
use Rattle.user_mem.proofs.users.try_write_user.Goals as goal

pub try_write-requires : goal.try_write-requires
try_write-requires c =
    let tables = map (λ t. t.items) c.args.tables.now in
    rw c.user_entries.ensures
    (record {
      translated = c.requires.translated c.args.user _ c.requires.user;
      fit = table_fits tables c.requires.pool.0 c.args.frames.now c.args.user c.requires.pool.1 c.requires.user;
      separate = table_is_separate tables c.requires.pool.0 c.args.frames.now c.args.user c.requires.pool.1 c.requires.user;
    })

pub returns-clause-value : goal.returns-clause-value
returns-clause-value c = λ done.
    memories_of-written (map (λ t. t.items) c.args.tables.now) c.requires.pool.0 c.args.frames.now c.try_write.new.frames c.args.user _ _ c.requires.pool.1 c.requires.user c.user_entries.ensures c.try_write.ensures.others
    (c.try_write.ensures.value done ∙ ap (λ (t : List Entry). put_bytes (memory_of c.args.frames.now t) c.args.target.addr c.args.bytes.now) c.user_entries.ensures)

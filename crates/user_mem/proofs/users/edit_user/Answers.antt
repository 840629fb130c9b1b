use Rattle.std.proofs.Common.{ap, map}
use Rattle.user_mem.specs.Table.{memory_of}
use Rattle.user_mem.proofs.PoolLaws.{table_fits, table_is_separate, memories_of-written}
use Rattle.user_mem.proofs.users.edit_user.Goals as goal

pub edit_page-requires : goal.edit_page-requires
edit_page-requires g c =
    let tables = map (λ t. t.items) c.args.tables.now in
    rw c.user_entries.ensures
    (record {
      translated = c.requires.translated c.args.user _ c.requires.user;
      fit = table_fits tables c.requires.pool.0 c.args.frames.now c.args.user c.requires.pool.1 c.requires.user;
      separate = table_is_separate tables c.requires.pool.0 c.args.frames.now c.args.user c.requires.pool.1 c.requires.user;
    })

pub returns-clause-value : goal.returns-clause-value
returns-clause-value g c =
    memories_of-written (map (λ t. t.items) c.args.tables.now) c.requires.pool.0 c.args.frames.now c.edit_page.new.frames c.args.user _ _ c.requires.pool.1 c.requires.user c.user_entries.ensures c.edit_page.ensures.others
    (ap (memory_of c.edit_page.new.frames) c.user_entries.ensures)

use Rattle.std.proofs.Common.{◌+◌, ◌∙◌, sym, ap, arith, length, map, List, [], get_or-set_other}
use Rattle.std.proofs.lemmas.List.{map-set, get_or-map}
use Rattle.rv_model.specs.memory.Memory.{with_pages}
use Rattle.user_mem.specs.declared.entry.Entry.{Entry}
use Rattle.user_mem.specs.Table.{memory_of}
use Rattle.user_mem.specs.Frames.{times_free, times_used}
use Rattle.user_mem.specs.Pool.{table_at}
use Rattle.user_mem.proofs.PoolLaws.{frames_left, pool_shares_no_frame, IsPool-set, memories_of-set}
use Rattle.user_mem.proofs.users.map_user.Goals as goal

pub take_pages-requires-clause-some : goal.take_pages-requires-clause-some
take_pages-requires-clause-some c = frames_left (map (λ t. t.items) c.args.tables.now) c.args.free.now.items c.args.frames.now c.args.user c.args.pages.count c.requires.pool c.requires.user c.requires.room

pub take_pages-requires-clause-disjoint : goal.take_pages-requires-clause-disjoint
take_pages-requires-clause-disjoint c =
    rw (← get_or-map (λ t. t.items) c.args.tables.now c.args.user c.index-tables-user.result [] (omega arith))
    (pool_shares_no_frame (map (λ t. t.items) c.args.tables.now) c.args.free.now.items c.args.frames.now c.args.user c.requires.pool c.requires.user)

pub returns-clause-pool : goal.returns-clause-pool
returns-clause-pool c =
    let item = get_or-map (λ t. t.items) c.args.tables.now c.args.user c.index-tables-user.result [] (omega arith) in
    let long = ap (λ (t : List Entry). length t) item in
    rw map-set
    (IsPool-set (map (λ t. t.items) c.args.tables.now) c.args.free.now.items c.take_pages.new.free.items c.args.frames.now c.take_pages.new.frames c.args.user c.take_pages.new.table.items
    c.requires.pool c.requires.user c.take_pages.ensures.size
    (record { few = omega arith; sorted = c.take_pages.ensures.sorted; below = c.take_pages.ensures.below })
    (λ f. c.take_pages.ensures.owners f ∙ ap (λ (t : List Entry). times_free f c.args.free.now.items + times_used f t) (sym item))
    (omega arith))

pub returns-clause-mapped : goal.returns-clause-mapped
returns-clause-mapped c =
    let tables = map (λ t. t.items) c.args.tables.now in
    let item = get_or-map (λ t. t.items) c.args.tables.now c.args.user c.index-tables-user.result [] (omega arith) in
    let users = c.requires.pool.users in
    let here = c.take_pages.ensures.mapped
    ∙ ap (λ (t : List Entry). with_pages (memory_of c.args.frames.now t) c.args.pages.first c.args.pages.count c.args.permissions) (sym item) in
    rw map-set
    (memories_of-set c.args.frames.now c.take_pages.new.frames (map (λ t. t.items) c.args.tables.now) c.args.user c.take_pages.new.table.items _ (omega (arith, users))
    (λ v within other. c.take_pages.ensures.others (table_at (map (λ t. t.items) c.args.tables.now) v)
    (pool_shares_no_frame (map (λ t. t.items) c.args.tables.now) c.args.free.now.items c.args.frames.now v c.requires.pool (omega (arith, users))))
    here)

pub returns-clause-others : goal.returns-clause-others
returns-clause-others c = λ u other. rw map-set (get_or-set_other (map (λ t. t.items) c.args.tables.now) c.args.user u c.take_pages.new.table.items [] other)

use Rattle.std.proofs.Common.{◌∙◌, refl, sym, ap, subst, arith, length, map, set, List, []}
use Rattle.std.proofs.lemmas.List.{map-set, get_or-map}
use Rattle.user_mem.specs.declared.entry.Entry.{Entry}
use Rattle.user_mem.specs.Frames.{times_used}
use Rattle.user_mem.proofs.CountLaws.{times_used-none}
use Rattle.user_mem.proofs.PoolLaws.{IsTable, no_table, room_to_give_back, IsPool-set}
use Rattle.user_mem.proofs.users.drop_pages.Goals as goal

pub give_back-requires : goal.give_back-requires
give_back-requires c =
    rw (← get_or-map (λ t. t.items) c.args.tables.now c.args.user c.index-tables-user.result [] (omega arith))
    (room_to_give_back (map (λ t. t.items) c.args.tables.now) c.args.free.now.items c.args.frames.now c.args.user c.requires.pool c.requires.user)

pub returns-clause-pool : goal.returns-clause-pool
returns-clause-pool c =
    let item = get_or-map (λ t. t.items) c.args.tables.now c.args.user c.index-tables-user.result [] (omega arith) in
    let long = ap (λ (t : List Entry). length t) item in
    let none = ap (λ (t : List Entry). length t) c.give_back.ensures.empty in
    rw map-set
    (IsPool-set (map (λ t. t.items) c.args.tables.now) c.args.free.now.items c.give_back.new.free.items c.args.frames.now c.args.frames.now c.args.user c.give_back.new.table.items
    c.requires.pool c.requires.user refl (subst IsTable (sym c.give_back.ensures.empty) no_table)
    (λ f. let unused = ap (times_used f) c.give_back.ensures.empty ∙ times_used-none f in let used = ap (times_used f) item in omega (arith, c.give_back.ensures.owners f))
    (omega (arith, c.give_back.ensures.len)))

pub returns-clause-dropped : goal.returns-clause-dropped
returns-clause-dropped c =
    map-set (λ t. t.items) c.args.tables.now c.args.user _ ∙ ap (λ (l : List Entry). set (map (λ t. t.items) c.args.tables.now) c.args.user l) c.give_back.ensures.empty

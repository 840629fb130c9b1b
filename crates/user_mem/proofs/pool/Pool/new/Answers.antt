use Rattle.std.proofs.Common.{map, sym, subst}
use Rattle.std.proofs.lemmas.List.{get_or-replicate}
use Rattle.rv_model.specs.machine.Setup.{user_count}
use Rattle.user_mem.specs.Pool.{table_at}
use Rattle.user_mem.specs.Translations.{Translates}
use Rattle.user_mem.proofs.ViewLaws.{fresh_pool, fresh_memories}
use Rattle.user_mem.proofs.pool.Pool.new.Goals as goal

pub invariant_of-result : goal.invariant_of-result
invariant_of-result g c = (
  fresh_pool (map (λ t. t.items) c.no_tables.result) c.all_free.result.items c.in-Ok.frames.items c.no_tables.ensures c.in-Ok.ensures c.all_free.ensures.once c.all_free.ensures.len,
  λ u d within. subst (λ t. Translates (table_at (map (λ t. t.items) c.no_tables.result) u) t) (sym (get_or-replicate user_count u c.none.result d within)) (c.none.ensures _),
)

pub returns : goal.returns
returns g c = fresh_memories (map (λ t. t.items) c.no_tables.result) c.in-Ok.frames.items c.no_tables.ensures

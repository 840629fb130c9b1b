use Rattle.std.proofs.Common.{ℕ, ◌∙◌, sym, ap, subst, get_or, set, map, List, [], get_or-set_other}
use Rattle.std.specs.FinMap.{empty}
use Rattle.rv_model.specs.memory.Memory.{Memory}
use Rattle.user_mem.specs.declared.entry.Entry.{Entry}
use Rattle.user_mem.specs.Pool.{memories_of, table_at}
use Rattle.user_mem.specs.Translations.{Translates}
use Rattle.user_mem.proofs.PoolLaws.{memories_of-dropped}
use Rattle.user_mem.proofs.pool.Pool.drop_user.Goals as goal

pub translate_user-requires-clause-others : goal.translate_user-requires-clause-others
translate_user-requires-clause-others g c = λ u d within other.
    subst (λ (ts : List (List Entry)). Translates (table_at ts u) (get_or c.self.inside.translations u d)) (sym c.drop_pages.ensures.dropped)
    (subst (λ (t : List Entry). Translates t (get_or c.self.inside.translations u d)) (sym (get_or-set_other (map (λ t. t.items) c.self.inside.tables) c.index-user.result u [] [] other)) (c.self.invariant.1 u d within))

pub returns-clause-dropped : goal.returns-clause-dropped
returns-clause-dropped g c =
    ap (λ (ts : List (List Entry)). memories_of c.self.inside.frames.items ts) c.drop_pages.ensures.dropped
    ∙ memories_of-dropped (map (λ t. t.items) c.self.inside.tables) c.self.inside.frames.items c.index-user.result
    ∙ ap (λ (ms : List Memory). set ms c.index-user.result empty) c.self.view_is
    ∙ ap (λ (i : ℕ). set c.args.self.now i empty) c.index-user.ensures.value

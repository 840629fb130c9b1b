use Rattle.std.proofs.Common.{refl, ◌∙◌, sym, ap, arith, map}
use Rattle.rv_model.specs.memory.Memory.{page_count}
use Rattle.user_mem.specs.Table.{IsSorted}
use Rattle.user_mem.proofs.PageLaws.{page_count-memory_of}
use Rattle.user_mem.proofs.ViewLaws.{memory_at}
use Rattle.user_mem.proofs.pool.Pool.pages.Goals as goal

pub returns-clause-value : goal.returns-clause-value
returns-clause-value g c =
    let sorted : IsSorted c.user_entries.result.now = rw c.user_entries.ensures (c.self.invariant.0.sorted c.index.result) in
    let seen = memory_at c.self.inside.frames.items c.self.inside.frames.items (map (λ t. t.items) c.self.inside.tables) c.args.user c.index.result c.user_entries.result.now c.args.self.now c.self.view_is c.index.ensures.value (omega (arith, c.self.invariant.0.users)) c.user_entries.ensures refl in
    sym (ap page_count seen ∙ page_count-memory_of c.self.inside.frames.items c.user_entries.result.now sorted)

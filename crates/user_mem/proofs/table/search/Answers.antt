use Rattle.std.proofs.Common.{rules}
use Rattle.std.proofs.lemmas.List.Sorted.{answers_always}
use Rattle.user_mem.proofs.SearchLaws.{searched}
use Rattle.user_mem.proofs.table.search.Goals as goal

-- the closure returns the entry's page number
pub returns : goal.returns
returns c =
    let facts = c.binary_search_by_key.ensures in
    let by_key = facts.position (λ e. e.page) (answers_always _ _ _ (λ f a r g called. search rules)) in
    searched _ c.requires c.args.page _ facts.bound by_key

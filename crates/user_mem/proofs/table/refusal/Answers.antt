use Rattle.std.proofs.Common.{◌∙◌, sym, arith}
use Rattle.rv_model.proofs.memory_lemmas.Memory.{map_refusal_quota, map_refusal_mapped, map_refusal_none}
use Rattle.user_mem.specs.Table.{memory_of}
use Rattle.user_mem.proofs.PageLaws.{page_count-memory_of}
use Rattle.user_mem.proofs.table.refusal.Goals as goal

pub returns-then-count-entries-clause-value : goal.returns-then-count-entries-clause-value
returns-then-count-entries-clause-value c = λ frames.
    let pages = page_count-memory_of frames c.args.entries.now c.requires.sorted in
    sym (map_refusal_quota (memory_of frames c.args.entries.now) c.args.page c.args.count (omega (arith, pages)))

pub returns-then-is_any_mapped-clause-value : goal.returns-then-is_any_mapped-clause-value
returns-then-is_any_mapped-clause-value c = λ frames.
    let pages = page_count-memory_of frames c.args.entries.now c.requires.sorted in
    sym (map_refusal_mapped (memory_of frames c.args.entries.now) c.args.page c.args.count (omega (arith, pages)) (sym (c.is_any_mapped.ensures.mapped frames) ∙ c.if-is_any_mapped.true))

pub returns-clause-value : goal.returns-clause-value
returns-clause-value c = λ frames.
    let pages = page_count-memory_of frames c.args.entries.now c.requires.sorted in
    sym (map_refusal_none (memory_of frames c.args.entries.now) c.args.page c.args.count (omega (arith, pages)) (sym (c.is_any_mapped.ensures.mapped frames) ∙ c.if-is_any_mapped.false))

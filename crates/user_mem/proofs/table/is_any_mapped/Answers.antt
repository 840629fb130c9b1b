use Rattle.std.proofs.Common.{◌+◌, ◌∙◌, sym, ap, arith}
use Rattle.std.specs.Prelude.{is_some}
use Rattle.rv_model.proofs.memory_lemmas.Memory.{any_page_mapped_at, any_page_mapped_none}
use Rattle.user_mem.specs.Table.{memory_of}
use Rattle.user_mem.proofs.PageLaws.{contains_key-memory_of}
use Rattle.user_mem.proofs.table.is_any_mapped.Goals as goal

pub returns-clause-mapped : goal.returns-clause-mapped
returns-clause-mapped c = λ frames. sym (any_page_mapped_none (memory_of frames c.args.entries.now) c.args.page c.args.count (λ k l.
    contains_key-memory_of frames c.args.entries.now (c.args.page + k) ∙ ap is_some (c.loop-i.invariant k (omega arith))))

pub returns-then-is_some-clause-mapped : goal.returns-then-is_some-clause-mapped
returns-then-is_some-clause-mapped c = λ frames. sym (any_page_mapped_at (memory_of frames c.args.entries.now) c.args.page c.args.count c.loop-i.i (omega arith)
    (contains_key-memory_of frames c.args.entries.now (c.args.page + c.loop-i.i) ∙ sym (ap is_some c.locate.ensures) ∙ sym c.is_some.ensures ∙ c.if-is_some.true))

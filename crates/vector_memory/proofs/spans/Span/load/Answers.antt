use Rattle.std.proofs.Common.{sym, ap, ◌∙◌}
use Rattle.rv_model.specs.declared.memory.Access.TheVariants.{Load}
use Rattle.rv_model.specs.memory.Memory.{can_access}
use Rattle.vector_memory.specs.SpanAccess.{span_access}
use Rattle.vector_memory.proofs.BlockMoves.{loads_block}
use Rattle.vector_memory.proofs.spans.Span.load.Goals as goal

pub returns-in-Some-clause-allowed : goal.returns-in-Some-clause-allowed
returns-in-Some-clause-allowed g c = λ done.
    let m = g.M.UserBytes.memory c.args.memory.now in
    ap (λ x. can_access Load m x c.args.self.now.length) (sym c.in-Some.ensures.address)
    ∙ ap (can_access Load m c.in-Some.block.address) (sym c.in-Some.ensures.length) ∙ c.load.ensures.allowed done

pub returns-in-Some-clause-value : goal.returns-in-Some-clause-value
returns-in-Some-clause-value g c = λ done.
    let b = c.args.self.now in
    c.load.ensures.value done
    ∙ loads_block b.segments b.body (span_access b).address b.stop c.in-Some.block c.in-Some.ensures.value c.args.fill
    (g.M.UserBytes.memory c.args.memory.now) c.args.file.now

use Rattle.std.proofs.Common.{false, sym, ap, ◌∙◌}
use Rattle.rv_model.specs.accesses.Transfers.{memory_stored}
use Rattle.rv_model.specs.declared.memory.Access.TheVariants.{Store}
use Rattle.rv_model.specs.memory.Memory.{can_access, put_bytes}
use Rattle.vector_memory.specs.SegmentRoom.{place_in}
use Rattle.vector_memory.specs.SpanAccess.{span_access, span_transfers}
use Rattle.vector_memory.proofs.BlockMoves.{stores_block}
use Rattle.vector_memory.proofs.SpanMoves.{put_read}
use Rattle.vector_memory.proofs.spans.Span.store.Goals as goal

pub returns-in-Some-clause-allowed : goal.returns-in-Some-clause-allowed
returns-in-Some-clause-allowed g c = λ done.
    let m = g.M.UserBytes.memory c.args.memory.now in
    ap (λ x. can_access Store m x c.args.self.now.length) (sym c.in-Some.ensures.address)
    ∙ ap (can_access Store m c.in-Some.block.address) (sym c.in-Some.ensures.length) ∙ c.store.ensures.allowed done

pub returns-in-Some-clause-value : goal.returns-in-Some-clause-value
returns-in-Some-clause-value g c = λ done.
    let b = c.args.self.now in
    c.store.ensures.value done
    ∙ stores_block b.segments b.body (span_access b).address b.stop c.in-Some.block c.in-Some.ensures.value false
    (g.M.UserBytes.memory c.args.memory.now) c.args.file.now c.store.ensures.whole

pub returns-clause-value : goal.returns-clause-value
returns-clause-value g c = λ done.
    let m = g.M.UserBytes.memory c.args.memory.now in
    let b = c.args.self.now in
    let place = place_in b.segments in
    c.in-Ok-write.ensures.value ∙ c.write.ensures.value c.if-not-write.false m
    ∙ ap (λ bytes. memory_stored (put_bytes m b.address bytes) place c.args.file.now (span_transfers b false)) c.in-Ok.ensures.value
    ∙ ap (λ n. memory_stored n place c.args.file.now (span_transfers b false)) (put_read m b.address _)

use Rattle.std.proofs.Common.{false, cond, sym, ap, ◌∙◌}
use Rattle.std.specs.Prelude.{nat_lt}
use Rattle.rv_model.specs.declared.memory.Access.TheVariants.{Store}
use Rattle.rv_model.specs.declared.step.memory_end.MemEnd.TheVariants.{Done, Cut}
use Rattle.rv_model.specs.accesses.Transfers.{memory_stored}
use Rattle.vector_memory.specs.SegmentRoom.{place_in}
use Rattle.vector_memory.proofs.SpanMoves.{span_ends, span_stores}
use Rattle.vector_memory.proofs.moves.Moves.store.Goals as goal

pub returns-clause-stored : goal.returns-clause-stored
returns-clause-stored g c =
    let m = g.M.UserBytes.memory c.args.memory.now in
    let s = c.args.self.now.segments in
    let body = c.args.self.now.body in
    let address = g.A.Addresses.address c.args.self.now.addresses in
    let stop = c.stop-stop.result in
    let is = c.in-Some.ensures in
    let stopped = span_ends s body address stop c.in-Some.span is false Store m c.args.limit c.stop-stop.ensures (c.store.ensures.allowed c.if-store.true) in
    record {
      end = c.end_without_fault.ensures.value ∙ ap (λ end. cond (nat_lt stop end) (Cut stop) Done) c.end.ensures.value ∙ sym stopped.end;
      value =
          c.store.ensures.value c.if-store.true ∙ span_stores s body address stop c.in-Some.span is m c.args.file.now
          ∙ ap (memory_stored m (place_in s) c.args.file.now) (sym stopped.done);
    }

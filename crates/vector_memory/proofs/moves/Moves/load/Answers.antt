use Rattle.std.proofs.Common.{cond, sym, ap, ◌∙◌}
use Rattle.std.specs.Prelude.{nat_lt}
use Rattle.rv_model.specs.declared.memory.Access.TheVariants.{Load}
use Rattle.rv_model.specs.declared.step.memory_end.MemEnd.TheVariants.{Done, Cut}
use Rattle.rv_model.specs.accesses.Transfers.{registers_loaded}
use Rattle.vector_memory.specs.SegmentRoom.{place_in}
use Rattle.vector_memory.proofs.SpanMoves.{span_ends, span_loads}
use Rattle.vector_memory.proofs.moves.Moves.load.Goals as goal

pub returns-clause-loaded : goal.returns-clause-loaded
returns-clause-loaded g c =
    let m = g.M.UserBytes.memory c.args.memory.now in
    let s = c.args.self.now.segments in
    let body = c.args.self.now.body in
    let address = g.A.Addresses.address c.args.self.now.addresses in
    let fill = c.args.extent.fill_masked_off in
    let stop = c.stop-stop.result in
    let is = c.in-Some.ensures in
    let stopped = span_ends s body address stop c.in-Some.span is fill Load m c.args.extent.limit c.stop-stop.ensures (c.load.ensures.allowed c.if-load.true) in
    record {
      end = c.end_without_fault.ensures.value ∙ ap (λ end. cond (nat_lt stop end) (Cut stop) Done) c.end.ensures.value ∙ sym stopped.end;
      value =
          c.load.ensures.value c.if-load.true ∙ span_loads s body address stop c.in-Some.span is fill m c.args.file.now
          ∙ ap (registers_loaded m (place_in s) c.args.file.now) (sym stopped.done);
    }

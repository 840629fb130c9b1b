use Rattle.std.proofs.Common.{◌≡◌, ◌+◌, ◌-◌, false, cond, refl, sym, ap, ◌∙◌, arith}
use Rattle.std.proofs.lemmas.Bool.{false_from_ne_true}
use Rattle.std.specs.Prelude.{nat_lt}
use Rattle.rv_model.specs.declared.memory.Access.TheVariants.{Load}
use Rattle.rv_model.specs.declared.step.memory_end.MemEnd.TheVariants.{Cut, Done, Fault}
use Rattle.rv_model.specs.accesses.Transfers.{are_allowed, registers_loaded, transfers}
use Rattle.rv_model.specs.accesses.VectorAccess.{plan}
use Rattle.rv_model.proofs.access_lemmas.Contiguous.{stops_all}
use Rattle.rv_model.proofs.access_lemmas.Stops.{stops_bad}
use Rattle.vector_memory.specs.SegmentRoom.{segments_access, place_in}
use Rattle.vector_memory.proofs.LentLaws.{part_more}
use Rattle.vector_memory.proofs.moves.Moves.load_each.Goals as goal

pub loop-index-preserved : goal.loop-index-preserved
loop-index-preserved g c =
    let b = c.args.self.now in
    let each = plan (segments_access b.segments b.body (g.A.Addresses.address b.addresses)) c.args.extent.fill_masked_off in
    let inv = c.loop-index.invariant in
    record {
      loaded = part_more (g.M.UserBytes.memory c.args.memory.now) (place_in b.segments) each b.body.start c.loop-index.index c.args.file.now c.loop-index.file c.load_index.new.file
          inv.low inv.loaded (record { allowed = c.in_default.ensures.ok.0 refl; value = c.in_default.ensures.value });
      low = omega (arith, inv.low);
      most = omega (arith, c.loop-index-test.true);
    }

pub returns-in-Err-clause-loaded : goal.returns-in-Err-clause-loaded
returns-in-Err-clause-loaded g c =
    let m = g.M.UserBytes.memory c.args.memory.now in
    let each = plan (segments_access c.args.self.now.segments c.args.self.now.body (g.A.Addresses.address c.args.self.now.addresses)) c.args.extent.fill_masked_off in
    let start = c.args.self.now.body.start in
    let i = c.loop-index.index in
    let inv = c.loop-index.invariant in
    let stop = c.stop-stop.ensures in
    let bad : are_allowed Load m (each i) ≡ false = false_from_ne_true _ (λ t. let is_not = c.in-Err.ensures.ok.1 t in cc) in
    let stopped = stops_bad Load m each start (start + c.args.extent.limit) c.args.self.now.body.end i inv.low (omega (arith, c.loop-index-test.true, stop)) (omega (arith, c.loop-index-test.true, stop)) inv.loaded.allowed bad in
    record {
      end = ap (λ addr. Fault i addr) c.in-Err.ensures.fault ∙ sym stopped.end;
      value = c.in-Err.ensures.unchanged ∙ inv.loaded.value ∙ ap (registers_loaded m (place_in c.args.self.now.segments) c.args.file.now) (sym stopped.done);
    }

pub returns-clause-loaded : goal.returns-clause-loaded
returns-clause-loaded g c =
    let m = g.M.UserBytes.memory c.args.memory.now in
    let each = plan (segments_access c.args.self.now.segments c.args.self.now.body (g.A.Addresses.address c.args.self.now.addresses)) c.args.extent.fill_masked_off in
    let body = c.args.self.now.body in
    let stop = c.stop-stop.ensures in
    let inv = c.loop-index.invariant in
    let stopped = stops_all Load m each body.start (body.start + c.args.extent.limit) body.end c.stop-stop.result stop (omega arith)
    (λ k low high. inv.loaded.allowed k low (omega (arith, high, c.loop-index-test.false))) in
    let count : c.loop-index.index - body.start ≡ c.stop-stop.result - body.start = omega (arith, inv.low, inv.most, c.loop-index-test.false) in
    record {
      end = c.end_without_fault.ensures.value ∙ ap (λ end. cond (nat_lt c.stop-stop.result end) (Cut c.stop-stop.result) Done) c.end.ensures.value ∙ sym stopped.end;
      value = inv.loaded.value ∙ ap (registers_loaded m (place_in c.args.self.now.segments) c.args.file.now) (ap (transfers each body.start) count ∙ sym stopped.done);
    }

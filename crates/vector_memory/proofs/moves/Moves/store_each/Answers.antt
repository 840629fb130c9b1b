use Rattle.std.proofs.Common.{◌≡◌, ◌+◌, ◌-◌, true, false, cond, refl, sym, ap, ◌∙◌, arith}
use Rattle.std.proofs.lemmas.Bool.{false_from_ne_true}
use Rattle.std.specs.Prelude.{nat_lt}
use Rattle.rv_model.specs.declared.memory.Access.TheVariants.{Store}
use Rattle.rv_model.specs.declared.step.memory_end.MemEnd.TheVariants.{Cut, Done, Fault}
use Rattle.rv_model.specs.accesses.Transfers.{are_allowed, bad_address, memory_stored, transfers}
use Rattle.rv_model.specs.accesses.VectorAccess.{plan}
use Rattle.rv_model.proofs.access_lemmas.Contiguous.{stops_all}
use Rattle.rv_model.proofs.access_lemmas.Moves.{bad_address-stored}
use Rattle.rv_model.proofs.access_lemmas.Stops.{stops_bad}
use Rattle.vector_memory.specs.SegmentRoom.{segments_access, place_in}
use Rattle.vector_memory.proofs.LentLaws.{allowed_later, stored_part_more}
use Rattle.vector_memory.proofs.moves.Moves.store_each.Goals as goal

pub loop-index-preserved : goal.loop-index-preserved
loop-index-preserved g c =
    let memory = g.M.UserBytes.memory in
    let old = memory c.args.memory.now in
    let b = c.args.self.now in
    let place = place_in b.segments in
    let file = c.args.file.now in
    let each = plan (segments_access b.segments b.body (g.A.Addresses.address b.addresses)) false in
    let i = c.loop-index.index in
    let inv = c.loop-index.invariant in
    let now = memory c.loop-index.memory in
    let new = memory c.store_index.new.memory in
    let here : are_allowed Store old (each i) ≡ true = sym (allowed_later place file each b.body.start i old now i inv.stored) ∙ c.in_default.ensures.stored.ok.0 refl in
    record {
      stored = stored_part_more place file each b.body.start i old now new inv.low inv.stored here c.in_default.ensures.stored.value;
      others = c.in_default.ensures.others ∙ ap (λ u. g.M.UserBytes.with_memory u new) inv.others ∙ g.met.M.UserBytes.with_memory_twice c.args.memory.now now new;
      low = omega (arith, inv.low);
      most = omega (arith, c.loop-index-test.true);
    }

pub returns-in-Err-clause-stored : goal.returns-in-Err-clause-stored
returns-in-Err-clause-stored g c =
    let memory = g.M.UserBytes.memory in
    let m = memory c.args.memory.now in
    let b = c.args.self.now in
    let each = plan (segments_access b.segments b.body (g.A.Addresses.address b.addresses)) false in
    let place = place_in b.segments in
    let file = c.args.file.now in
    let start = b.body.start in
    let i = c.loop-index.index in
    let inv = c.loop-index.invariant in
    let now = memory c.loop-index.memory in
    let stop = c.stop-stop.ensures in
    let bad : are_allowed Store m (each i) ≡ false =
    sym (allowed_later place file each start i m now i inv.stored) ∙ false_from_ne_true _ (λ t. let is_not = c.in-Err.ensures.stored.ok.1 t in cc) in
    let stopped = stops_bad Store m each start (start + c.args.limit) b.body.end i inv.low (omega (arith, c.loop-index-test.true, stop)) (omega (arith, c.loop-index-test.true, stop)) inv.stored.allowed bad in
    record {
      end =
          ap (λ addr. Fault i addr)
          (c.in-Err.ensures.stored.fault ∙ ap (λ x. bad_address Store x (each i)) inv.stored.value ∙ bad_address-stored Store m place file (transfers each start (i - start)) (each i))
          ∙ sym stopped.end;
      value = ap memory c.in-Err.ensures.unchanged ∙ inv.stored.value ∙ ap (memory_stored m place file) (sym stopped.done);
    }

pub returns-clause-stored : goal.returns-clause-stored
returns-clause-stored g c =
    let m = g.M.UserBytes.memory c.args.memory.now in
    let each = plan (segments_access c.args.self.now.segments c.args.self.now.body (g.A.Addresses.address c.args.self.now.addresses)) false in
    let body = c.args.self.now.body in
    let stop = c.stop-stop.ensures in
    let inv = c.loop-index.invariant in
    let stopped = stops_all Store m each body.start (body.start + c.args.limit) body.end c.stop-stop.result stop (omega arith)
    (λ k low high. inv.stored.allowed k low (omega (arith, high, c.loop-index-test.false))) in
    let count : c.loop-index.index - body.start ≡ c.stop-stop.result - body.start = omega (arith, inv.low, inv.most, c.loop-index-test.false) in
    record {
      end = c.end_without_fault.ensures.value ∙ ap (λ end. cond (nat_lt c.stop-stop.result end) (Cut c.stop-stop.result) Done) c.end.ensures.value ∙ sym stopped.end;
      value = inv.stored.value ∙ ap (memory_stored m (place_in c.args.self.now.segments) c.args.file.now) (ap (transfers each body.start) count ∙ sym stopped.done);
    }

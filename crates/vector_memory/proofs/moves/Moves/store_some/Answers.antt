use Rattle.std.proofs.Common.{◌≡◌, true, false, subst, sym, ap, ◌∙◌, arith}
use Rattle.std.specs.Prelude.{IsOk}
use Rattle.rv_model.specs.accesses.Transfers.{are_allowed}
use Rattle.rv_model.specs.accesses.VectorAccess.{plan}
use Rattle.rv_model.specs.declared.memory.Access.TheVariants.{Store}
use Rattle.vector_memory.specs.Lent.{ArePartStored}
use Rattle.vector_memory.specs.SegmentRoom.{segments_access, place_in}
use Rattle.vector_memory.proofs.LentLaws.{stored_part_more, stored_part_same}
use Rattle.vector_memory.proofs.Outcomes.{when_ok}
use Rattle.vector_memory.proofs.moves.Moves.store_some.Goals as goal

pub returns-then-is_ok : goal.returns-then-is_ok
returns-then-is_ok g c =
    let memory = g.M.UserBytes.memory in
    let old = memory c.args.memory.now in
    let mid = memory c.store_near-next.new.memory in
    let new = memory c.store_index.new.memory in
    let b = c.args.self.now in
    let place = place_in b.segments in
    let file = c.args.file.now in
    let i = c.args.index in
    let each = plan (segments_access b.segments b.body (g.A.Addresses.address b.addresses)) false in
    let near = c.store_near-next.ensures in
    let here = c.store_index.ensures in
    let at : c.store_near-next.result ≡ i = omega (arith, c.if-next-index.true) in
    let well : IsOk c.store_index.result = sym c.is_ok.ensures.value ∙ c.if-is_ok.true in
    let same : mid ≡ old = stored_part_same place file each i c.store_near-next.result old mid at near.stored.stored in
    let allowed : are_allowed Store old (each i) ≡ true = sym (ap (λ x. are_allowed Store x (each i)) same) ∙ here.stored.ok.0 well in
    record {
      stored = record {
        order = omega arith;
        most = omega (arith, c.requires.order);
        stored = stored_part_more place file each i i old mid new (omega arith) (subst (λ k. ArePartStored place file each i k old mid) at near.stored.stored)
            allowed (when_ok c.store_index.result well here.stored.value);
      };
      others = when_ok c.store_index.result well here.others ∙ ap (λ u. g.M.UserBytes.with_memory u new) near.others ∙ g.met.M.UserBytes.with_memory_twice c.args.memory.now mid new;
    }

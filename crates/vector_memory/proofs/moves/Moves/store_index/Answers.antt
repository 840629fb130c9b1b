use Rattle.std.proofs.Common.{◌≡◌, ◌<◌, ◌^◌, false, refl, sym, ◌∙◌, arith}
use Rattle.rv_model.specs.declared.memory.Access.TheVariants.{Store}
use Rattle.rv_model.proofs.access_lemmas.Moves.{allowed_none, stored_none}
use Rattle.rv_model.proofs.access_lemmas.Segments.{field_transfer, plan_active, plan_kept}
use Rattle.vector_memory.proofs.OneField.{one_allowed, one_fault, one_stored}
use Rattle.vector_memory.proofs.Outcomes.{on_ok}
use Rattle.vector_memory.specs.SegmentRoom.{segments_access, place_in}
use Rattle.vector_memory.proofs.moves.Moves.store_index.Goals as goal

pub returns-then-self-eq1-clause-stored : goal.returns-then-self-eq1-clause-stored
returns-then-self-eq1-clause-stored g c =
    let m = g.M.UserBytes.memory c.args.memory.now in
    let s = c.args.self.now.segments in
    let i = c.args.index in
    let active = plan_active (segments_access c.args.self.now.segments c.args.self.now.body (g.A.Addresses.address c.args.self.now.addresses)) false i (sym c.is_enabled.ensures ∙ c.if-is_enabled.true) in
    let address = c.address-address.result in
    let low : address < 2 ^ 64 = omega arith in
    let at : c.place-place.result ≡ place_in s (field_transfer i address s.size 0) = omega (arith, c.place-place.ensures.value) in
    rw (active, sym c.address-address.ensures, c.if-self-eq1.true)
    (record {
      ok = one_allowed m i address s.size low Store c.store_bytes.ensures.ok;
      fault = one_fault m i address s.size low Store (λ fault. fault.addr) c.store_bytes.result c.store_bytes.ensures.ok c.store_bytes.ensures.fault;
      value = on_ok c.store_bytes.result (λ moved. moved ∙ one_stored m i address s.size low (place_in s) c.args.file.now c.place-place.result at) c.store_bytes.ensures.value;
    })

pub returns-then-is_enabled-clause-stored : goal.returns-then-is_enabled-clause-stored
returns-then-is_enabled-clause-stored g c =
    let active = plan_active (segments_access c.args.self.now.segments c.args.self.now.body (g.A.Addresses.address c.args.self.now.addresses)) false c.args.index (sym c.is_enabled.ensures ∙ c.if-is_enabled.true) in
    rw (active, sym c.address-address.ensures) c.store.ensures.stored

pub returns-clause-stored : goal.returns-clause-stored
returns-clause-stored g c =
    let self = c.args.self.now in
    let m = g.M.UserBytes.memory c.args.memory.now in
    rw (plan_kept (segments_access self.segments self.body (g.A.Addresses.address self.addresses)) false c.args.index (sym c.is_enabled.ensures ∙ c.if-is_enabled.false) refl)
    (record {
      ok = (λ t. allowed_none Store m, λ t. refl);
      fault = tt;
      value = sym (stored_none m (place_in self.segments) c.args.file.now);
    })

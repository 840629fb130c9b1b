use Rattle.std.proofs.Common.{◌≡◌, ◌<◌, ◌^◌, refl, sym, ◌∙◌, arith}
use Rattle.rv_model.specs.declared.memory.Access.TheVariants.{Load}
use Rattle.rv_model.proofs.access_lemmas.Moves.{allowed_none, loaded_none}
use Rattle.rv_model.proofs.access_lemmas.Segments.{field_transfer, filled_allowed, plan_active, plan_filled, plan_kept}
use Rattle.vector_memory.proofs.OneField.{one_allowed, one_fault, one_loaded}
use Rattle.vector_memory.proofs.Outcomes.{on_ok}
use Rattle.vector_memory.specs.SegmentRoom.{segments_access, place_in}
use Rattle.vector_memory.proofs.moves.Moves.load_index.Goals as goal

pub returns-then-self-eq1 : goal.returns-then-self-eq1
returns-then-self-eq1 g c =
    let m = g.M.UserBytes.memory c.args.memory.now in
    let s = c.args.self.now.segments in
    let i = c.args.index in
    let active = plan_active (segments_access c.args.self.now.segments c.args.self.now.body (g.A.Addresses.address c.args.self.now.addresses)) c.args.fill i (sym c.is_enabled.ensures ∙ c.if-is_enabled.true) in
    let address = c.address-address.result in
    let low : address < 2 ^ 64 = omega arith in
    let at : c.place-place.result ≡ place_in s (field_transfer i address s.size 0) = omega (arith, c.place-place.ensures.value) in
    rw (active, sym c.address-address.ensures, c.if-self-eq1.true)
    (record {
      ok = one_allowed m i address s.size low Load c.load_bytes.ensures.ok;
      fault = one_fault m i address s.size low Load (λ fault. fault.addr) c.load_bytes.result c.load_bytes.ensures.ok c.load_bytes.ensures.fault;
      value = on_ok c.load_bytes.result (λ moved. moved ∙ one_loaded m i address s.size low (place_in s) c.args.file.now c.place-place.result at) c.load_bytes.ensures.value;
      unchanged = c.load_bytes.ensures.unchanged;
    })

pub returns-then-is_enabled : goal.returns-then-is_enabled
returns-then-is_enabled g c =
    let active = plan_active (segments_access c.args.self.now.segments c.args.self.now.body (g.A.Addresses.address c.args.self.now.addresses)) c.args.fill c.args.index (sym c.is_enabled.ensures ∙ c.if-is_enabled.true) in
    rw (active, sym c.address-address.ensures) c.load.ensures

pub returns-then-fill : goal.returns-then-fill
returns-then-fill g c =
    let self = c.args.self.now in
    let m = g.M.UserBytes.memory c.args.memory.now in
    let filled = plan_filled (segments_access self.segments self.body (g.A.Addresses.address self.addresses)) c.args.fill c.args.index (sym c.is_enabled.ensures ∙ c.if-is_enabled.false) c.if-fill.true in
    rw filled
    (record {
      ok = (λ t. filled_allowed Load m c.args.index self.segments.size self.segments.fields, λ t. refl);
      fault = tt;
      value = c.fill.ensures m;
      unchanged = tt;
    })

pub returns-else-fill : goal.returns-else-fill
returns-else-fill g c =
    let self = c.args.self.now in
    let m = g.M.UserBytes.memory c.args.memory.now in
    let kept = plan_kept (segments_access self.segments self.body (g.A.Addresses.address self.addresses)) c.args.fill c.args.index (sym c.is_enabled.ensures ∙ c.if-is_enabled.false) c.if-fill.false in
    rw kept
    (record {
      ok = (λ t. allowed_none Load m, λ t. refl);
      fault = tt;
      value = sym (loaded_none m (place_in self.segments) c.args.file.now);
      unchanged = tt;
    })

use Rattle.std.proofs.Common.{◌≡◌, ◌+◌, ◌-◌, ◌*◌, ◌%◌, ◌^◌, length, take, drop, true, refl, sym, ap, ◌∙◌, arith}
use Rattle.std.specs.Simd.Lanes.{chunk}
use Rattle.rv_model.specs.declared.memory.Access.TheVariants.{Store}
use Rattle.rv_model.specs.accesses.Transfers.{memory_stored}
use Rattle.rv_model.specs.accesses.VectorAccess.{moved_segment}
use Rattle.rv_model.specs.memory.Memory.{can_access}
use Rattle.rv_model.proofs.access_lemmas.Moves.{can_access-stored}
use Rattle.rv_model.proofs.access_lemmas.Segments.{allowed_field, field_transfer, stored_field, stored_start}
use Rattle.vector_memory.proofs.Outcomes.{when_ok}
use Rattle.vector_memory.specs.SegmentRoom.{place_in}
use Rattle.vector_memory.proofs.segments.Segments.store.Goals as goal

pub loop-field-init : goal.loop-field-init
loop-field-init g c = record {
  value = stored_start (g.M.UserBytes.memory c.args.memory.now) (place_in c.args.self.now) c.args.file.now c.args.index c.args.address c.args.self.now.size;
  others = sym (g.met.M.UserBytes.with_memory_same c.args.memory.now);
}

pub loop-field-preserved : goal.loop-field-preserved
loop-field-preserved g c =
    let m = g.M.UserBytes.memory c.args.memory.now in
    let s = c.args.self.now in
    let f = c.loop-field.field in
    let i = c.args.index in
    let file = c.args.file.now in
    let now = g.M.UserBytes.memory c.loop-field.memory in
    let t = field_transfer i c.args.address s.size f in
    let address = (c.args.address + f * s.size) % 2 ^ 64 in
    let size : length c.part-bytes.result.now ≡ s.size = omega (arith, c.part-bytes.ensures.len) in
    let at = c.place-at.result in
    let count : at + s.size - at ≡ s.size = omega arith in
    let part : c.part-bytes.result.now ≡ chunk (place_in s t) s.size file =
    c.part-bytes.ensures.value ∙ ap (λ n. take n (drop at file)) count ∙ ap (λ a. take s.size (drop a file)) c.place-at.ensures.value in
    let allowed : can_access Store now address s.size ≡ true =
    ap (λ x. can_access Store x address s.size) c.loop-field.invariant.value
    ∙ can_access-stored Store m (place_in s) file (moved_segment i c.args.address s.size f) address s.size
    ∙ allowed_field Store m i c.args.address s.size f s.fields c.loop-field-test.true ((c.in_ok-check.ensures.ok i).0 refl) in
    let well = c.write.ensures.ok.1 (rw (c.field_address.ensures, size) allowed) in
    record {
      value =
          when_ok c.write.result well c.write.ensures.value
          ∙ rw (part, c.field_address.ensures, c.loop-field.invariant.value) (stored_field m (place_in s) file i c.args.address s.size f);
      others =
          when_ok c.write.result well c.write.ensures.others
          ∙ ap (λ u. g.M.UserBytes.with_memory u (g.M.UserBytes.memory c.write.new.self)) c.loop-field.invariant.others
          ∙ g.met.M.UserBytes.with_memory_twice c.args.memory.now now (g.M.UserBytes.memory c.write.new.self);
    }

pub returns-clause-stored : goal.returns-clause-stored
returns-clause-stored g c =
    let m = g.M.UserBytes.memory c.args.memory.now in
    let s = c.args.self.now in
    let last : c.loop-field.field ≡ s.fields = omega arith in
    record {
      ok = (λ t. (c.in_ok-check.ensures.ok c.args.index).0 refl, λ t. refl);
      fault = tt;
      value = c.loop-field.invariant.value ∙ ap (λ f. memory_stored m (place_in s) c.args.file.now (moved_segment c.args.index c.args.address s.size f)) last;
    }

use Rattle.std.proofs.Common.{◌≡◌, ◌+◌, ◌*◌, ◌%◌, ◌^◌, length, true, refl, ap, ◌∙◌, arith}
use Rattle.rv_model.specs.declared.memory.Access.TheVariants.{Load}
use Rattle.rv_model.specs.accesses.Transfers.{registers_loaded}
use Rattle.rv_model.specs.accesses.VectorAccess.{moved_segment}
use Rattle.rv_model.specs.memory.Memory.{bytes_at, can_access}
use Rattle.rv_model.proofs.access_lemmas.Segments.{allowed_field, loaded_field, loaded_start}
use Rattle.vector_memory.proofs.Outcomes.{when_ok}
use Rattle.vector_memory.specs.SegmentRoom.{place_in}
use Rattle.vector_memory.proofs.segments.Segments.load.Goals as goal

pub loop-field-init : goal.loop-field-init
loop-field-init g c =
    loaded_start (g.M.UserBytes.memory c.args.memory.now) (place_in c.args.self.now) c.args.file.now c.args.index c.args.address c.args.self.now.size

pub loop-field-preserved : goal.loop-field-preserved
loop-field-preserved g c =
    let m = g.M.UserBytes.memory c.args.memory.now in
    let s = c.args.self.now in
    let f = c.loop-field.field in
    let size : length c.part_mut-bytes.result.now ≡ s.size = omega (arith, c.part_mut-bytes.ensures.len) in
    let allowed : can_access Load m ((c.args.address + f * s.size) % 2 ^ 64) s.size ≡ true =
    allowed_field Load m c.args.index c.args.address s.size f s.fields c.loop-field-test.true ((c.in_ok-check.ensures.ok c.args.index).0 refl) in
    let read : c.read.new.bytes ≡ bytes_at m ((c.args.address + f * s.size) % 2 ^ 64) s.size =
    when_ok c.read.result (c.read.ensures.ok.1 (rw (c.field_address.ensures, size) allowed)) c.read.ensures.value
    ∙ ap (λ a. bytes_at m a (length c.part_mut-bytes.result.now)) c.field_address.ensures
    ∙ ap (bytes_at m ((c.args.address + f * s.size) % 2 ^ 64)) size in
    rw (read, c.place-at.ensures.value, c.loop-field.invariant)
    (loaded_field m (place_in s) c.args.file.now c.args.index c.args.address s.size f)

pub returns : goal.returns
returns g c =
    let m = g.M.UserBytes.memory c.args.memory.now in
    let s = c.args.self.now in
    let last : c.loop-field.field ≡ s.fields = omega arith in
    record {
      ok = (λ t. (c.in_ok-check.ensures.ok c.args.index).0 refl, λ t. refl);
      fault = tt;
      value = c.loop-field.invariant ∙ ap (λ f. registers_loaded m (place_in s) c.args.file.now (moved_segment c.args.index c.args.address s.size f)) last;
      unchanged = tt;
    }

use Rattle.std.proofs.Common.{◌≡◌, ◌∙◌}
use Rattle.std.specs.Prelude.{replicate}
use Rattle.rv_model.proofs.access_lemmas.Segments.{filled_field, filled_start}
use Rattle.vector_memory.proofs.Outcomes.{take-replicate}
use Rattle.vector_memory.specs.SegmentRoom.{place_in}
use Rattle.vector_memory.proofs.segments.Segments.fill.Goals as goal

pub loop-field-init : goal.loop-field-init
loop-field-init c = λ memory. filled_start memory (place_in c.args.self.now) c.args.file.now c.args.index c.args.self.now.size

pub loop-field-preserved : goal.loop-field-preserved
loop-field-preserved c = λ memory.
    let s = c.args.self.now in
    let f = c.loop-field.field in
    let filled : c.copy_from_slice.new.self ≡ replicate s.size 255 = c.copy_from_slice.ensures.after ∙ take-replicate 255 s.size 8 c.requires.room.size in
    rw (filled, c.place-at.ensures.value, c.loop-field.invariant memory)
    (filled_field memory (place_in s) c.args.file.now c.args.index s.size f)

use Rattle.std.proofs.Common.{rules, ap, ◌∙◌, ◌<◌, length}
use Rattle.vec_monitor.specs.declared.image_files.ImageFile.{ImageFile}
use Rattle.vec_monitor.proofs.ImageArgumentLaws.{named_next}
use Rattle.vec_monitor.proofs.image_files.borrowed_images.Goals as goal

pub loop-file-preserved : goal.loop-file-preserved
loop-file-preserved g c =
    let below : c.loop-file.file-index < length c.args.files.now = search rules in
    named_next c.args.files.now c.loop-file.images.items c.push.new.self.items c.loop-file.file-index _ _ c.in_ok-push.ensures.items below c.loop-file.invariant
    (c.as_slice.ensures.value ∙ ap (λ (file : ImageFile _). file.bytes.items) c.file-item.is) (ap (λ (file : ImageFile _). file.name.now) c.file-item.is)

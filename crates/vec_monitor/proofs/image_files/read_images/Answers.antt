use Rattle.std.proofs.Common.{rules, subst, sym, ◌<◌, length}
use Rattle.std.specs.List.{AllZip}
use Rattle.vec_monitor.specs.ImageFiles.{IsFileOf}
use Rattle.vec_monitor.proofs.ImageArgumentLaws.{zip_next}
use Rattle.vec_monitor.proofs.image_files.read_images.Goals as goal

pub loop-image-preserved : goal.loop-image-preserved
loop-image-preserved g c =
    let below : c.loop-image.image-index < length c.args.images.now = search rules in
    let is_file = IsFileOf (g.I.Inputs.file_bytes c.args.inputs.now) in
    subst (AllZip is_file _) (sym c.in_ok-push.ensures.items)
    (zip_next is_file c.args.images.now c.loop-image.files.items c.loop-image.image-index _ _ below
    c.loop-image.invariant c.in_ok-read_image.ensures.file)

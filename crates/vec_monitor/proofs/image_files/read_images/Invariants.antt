use Rattle.std.proofs.Common.{take}
use Rattle.std.specs.List.{AllZip}
use Rattle.vec_monitor.specs.ImageFiles.{IsFileOf}
use Rattle.vec_monitor.proofs.image_files.read_images.Given as goal

-- the files so far are those of the images before the current index
abbrev pub invariant-loop-image : goal.invariant-loop-image
invariant-loop-image g l = AllZip (IsFileOf (g.I.Inputs.file_bytes l.fn.inputs)) (take l.image-index l.images) l.files.items

use Rattle.std.proofs.Common.{map, take, ◌≡◌}
use Rattle.monitor_machine.specs.Images.{named_images}
use Rattle.vec_monitor.specs.ImageFiles.{named_file}
use Rattle.vec_monitor.proofs.image_files.borrowed_images.Given as goal

-- the images so far are those of the files before the current index
abbrev pub invariant-loop-file : goal.invariant-loop-file
invariant-loop-file g l = named_images l.images.items ≡ map named_file (take l.file-index l.files)

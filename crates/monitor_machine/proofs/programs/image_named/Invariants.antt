use Rattle.std.proofs.Common.{◌≡◌, drop}
use Rattle.std.specs.Prelude.{find}
use Rattle.std.specs.Str.{bytes_eq}
use Rattle.monitor_machine.specs.Images.{named_images}
use Rattle.monitor_machine.proofs.programs.image_named.Given as goal

-- the rest of the list determines the result
abbrev pub invariant-loop-image : goal.invariant-loop-image
invariant-loop-image l = find (λ image. bytes_eq image.name l.name) (named_images (drop l.image-index l.images)) ≡ find (λ image. bytes_eq image.name l.name) (named_images l.images)

use Rattle.std.proofs.Common.{◌≡◌, drop}
use Rattle.std.specs.List.{list_any}
use Rattle.std.specs.Str.{bytes_eq}
use Rattle.monitor_machine.specs.Images.{named_images}
use Rattle.monitor_machine.proofs.new_fault.is_named.Given as goal

-- the rest of the list determines the result
abbrev pub invariant-loop-image : goal.invariant-loop-image
invariant-loop-image l = list_any (λ image. bytes_eq image.name l.name) (named_images (drop l.image-index l.images)) ≡ list_any (λ image. bytes_eq image.name l.name) (named_images l.images)

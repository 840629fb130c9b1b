use Rattle.std.proofs.Common.{◌≡◌, drop}
use Rattle.std.specs.List.{list_all}
use Rattle.monitor_machine.specs.Images.{named_images}
use Rattle.monitor_machine.specs.NewFaults.{is_name}
use Rattle.monitor_machine.proofs.new_fault.are_named.Given as goal

-- the rest of the list determines the result
abbrev pub invariant-loop-image : goal.invariant-loop-image
invariant-loop-image l = list_all (λ image. is_name image.name) (named_images (drop l.image-index l.images)) ≡ list_all (λ image. is_name image.name) (named_images l.images)

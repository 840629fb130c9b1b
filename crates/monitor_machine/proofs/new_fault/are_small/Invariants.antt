use Rattle.std.proofs.Common.{◌≡◌, drop}
use Rattle.std.specs.Prelude.{Bool, length, nat_le}
use Rattle.std.specs.List.{list_all}
use Rattle.rv_model.specs.machine.Setup.{Image}
use Rattle.monitor_machine.specs.Images.{named_images}
use Rattle.monitor_machine.proofs.new_fault.are_small.Given as goal

abbrev is_small : Image → Bool
is_small image = nat_le (length image.bytes) 4194304

-- the rest of the list determines the result
abbrev pub invariant-loop-image : goal.invariant-loop-image
invariant-loop-image l = list_all is_small (named_images (drop l.image-index l.images)) ≡ list_all is_small (named_images l.images)

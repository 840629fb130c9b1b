use Rattle.std.proofs.Common.{◌≡◌, drop}
use Rattle.monitor_machine.specs.Images.{named_images}
use Rattle.monitor_machine.specs.NewFaults.{are_distinct}
use Rattle.monitor_machine.proofs.new_fault.are_distinct.Given as goal

-- the rest of the list determines the result
abbrev pub invariant-loop-place : goal.invariant-loop-place
invariant-loop-place l = are_distinct (named_images (drop l.place l.images)) ≡ are_distinct (named_images l.images)

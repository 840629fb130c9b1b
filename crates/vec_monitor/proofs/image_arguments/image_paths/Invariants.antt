use Rattle.std.proofs.Common.{take}
use Rattle.std.specs.List.{AllZip}
use Rattle.vec_monitor.specs.ImageArguments.{IsPathOf}
use Rattle.vec_monitor.proofs.image_arguments.image_paths.Given as goal

-- the arguments before the current index have been split
abbrev pub invariant-loop-word : goal.invariant-loop-word
invariant-loop-word g l = AllZip IsPathOf (take l.word-index l.arguments) l.paths.items

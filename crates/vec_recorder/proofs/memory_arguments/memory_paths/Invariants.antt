use Rattle.std.proofs.Common.{take}
use Rattle.std.specs.List.{AllZip}
use Rattle.vec_recorder.specs.MemoryArguments.{IsMemoryAt}
use Rattle.vec_recorder.proofs.memory_arguments.memory_paths.Given as goal

-- the values before the current index have been split
abbrev pub invariant-loop-word : goal.invariant-loop-word
invariant-loop-word g l = AllZip IsMemoryAt (take l.word-index l.arguments) l.paths.items

use Rattle.std.proofs.Common.{take}
use Rattle.std.specs.List.{All}
use Rattle.std.specs.Prelude.{option_map}
use Rattle.vec_recorder.specs.Paths.{DiffersFrom}
use Rattle.vec_recorder.proofs.paths.check_inputs.Given as goal

-- the output isn't one of the memory files before the current index
abbrev pub invariant-loop-memory : goal.invariant-loop-memory
invariant-loop-memory g l = All (DiffersFrom (option_map (λ path. path.now) l.output)) (take l.memory-index l.memories)

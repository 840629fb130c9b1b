use Rattle.std.proofs.Common.{refl, rules, ◌<◌, length}
use Rattle.std.specs.Prelude.{option_map}
use Rattle.std.proofs.lemmas.List.Elements.{All-more}
use Rattle.vec_recorder.specs.Paths.{DiffersFrom}
use Rattle.vec_recorder.proofs.paths.check_inputs.Goals as goal

pub loop-memory-preserved : goal.loop-memory-preserved
loop-memory-preserved g c =
    let below : c.loop-memory.memory-index < length c.args.memories.now = search rules in
    All-more (DiffersFrom (option_map (λ path. path.now) c.args.output)) c.args.memories.now c.loop-memory.memory-index _ below
    c.loop-memory.invariant (c.in_ok-check_input-3.ensures.apart refl)

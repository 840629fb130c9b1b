use Rattle.std.proofs.Common.{rules, ◌<◌, length}
use Rattle.vec_recorder.proofs.RunLaws.{next_placed, none_left}
use Rattle.vec_recorder.proofs.initial_machine.place_files.Goals as goal

pub loop-memory-preserved : goal.loop-memory-preserved
loop-memory-preserved g c =
    let below : c.loop-memory.memory-index < length c.args.memories.now = search rules in
    record {
      others = λ after rest. c.loop-memory.invariant.others after
          (next_placed (g.I.Inputs.file_bytes c.args.inputs.now) c.args.memories.now c.loop-memory.memory-index _ _ _ after below c.in_ok-place_file.ensures.placed rest);
      state = search rules;
    }

pub returns-clause-placed : goal.returns-clause-placed
returns-clause-placed g c =
    let all = none_left (g.I.Inputs.file_bytes c.args.inputs.now) c.args.memories.now in
    search (rules, all, c.loop-memory.invariant.others)

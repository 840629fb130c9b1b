use Rattle.std.proofs.Common.{◌≡◌, drop}
use Rattle.recording.specs.Machines.{state_of}
use Rattle.rv_model.specs.memory.Memory.{Memory}
use Rattle.first_state.specs.OwnMemory.{own_memory}
use Rattle.first_state.specs.Placed.{in_memory}
use Rattle.vec_recorder.specs.InitialMachine.{ArePlaced}
use Rattle.vec_recorder.proofs.initial_machine.place_files.Given as goal

-- writing the remaining files completes the memory; everything but memory is unchanged
abbrev pub invariant-loop-memory : goal.invariant-loop-memory
invariant-loop-memory g l = record {
  others : (after : Memory) → ArePlaced (g.I.Inputs.file_bytes l.fn.inputs) (drop l.memory-index l.memories) (own_memory l.machine.memory) after
      → ArePlaced (g.I.Inputs.file_bytes l.fn.inputs) l.memories (own_memory l.fn.machine.memory) after;
  state : state_of own_memory l.machine ≡ in_memory (state_of own_memory l.fn.machine) (own_memory l.machine.memory);
}

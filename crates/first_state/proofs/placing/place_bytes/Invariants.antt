use Rattle.std.proofs.Common.{◌≡◌, ◌+◌, drop}
use Rattle.recording.specs.Machines.{state_of}
use Rattle.first_state.specs.OwnMemory.{own_memory}
use Rattle.first_state.specs.Placed.{in_memory, placed}
use Rattle.first_state.proofs.placing.place_bytes.Given as goal

-- placing the remaining bytes in the current memory has the result of placing all bytes
abbrev pub invariant-loop-byte : goal.invariant-loop-byte
invariant-loop-byte g l = record {
  at : l.at ≡ l.addr + l.byte-index;
  rest : placed l.permissions l.at (drop l.byte-index l.bytes) (own_memory l.machine.memory) ≡ placed l.permissions l.addr l.bytes (own_memory l.fn.machine.memory);
  others : state_of own_memory l.machine ≡ in_memory (state_of own_memory l.fn.machine) (own_memory l.machine.memory);
}

use Rattle.std.proofs.Common.{subst}
use Rattle.std.specs.Prelude.{option_map}
use Rattle.recording.specs.Machines.{state_of}
use Rattle.first_state.specs.OwnMemory.{own_memory}
use Rattle.vec_recorder.specs.InitialMachine.{AreSet}
use Rattle.vec_recorder.proofs.initial_machine.prepare.Goals as goal

pub returns-clause-begins : goal.returns-clause-begins
returns-clause-begins g c = record {
  first = state_of own_memory c.load_image.new.machine;
  loaded_is = c.in_ok-load_image.ensures.state;
  memory = own_memory c.place_files.new.machine.memory;
  placed_are = c.in_ok-place_files.ensures.placed;
  laid_are = subst (λ s. AreSet (g.I.Inputs.file_bytes c.args.inputs.now) (option_map (λ path. path.now) c.args.registers) s (state_of own_memory c.set_registers_from_file.new.machine)) c.place_files.ensures.others c.in_ok-set_registers_from_file.ensures.laid;
}

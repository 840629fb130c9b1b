use Rattle.std.proofs.Common.{refl, subst, sym}
use Rattle.first_state.specs.OwnMemory.{own_memory}
use Rattle.devices.specs.KnownBytes.{AreKnownAs}
use Rattle.vec_recorder.specs.InitialMachine.{ArePlaced}
use Rattle.vec_recorder.proofs.initial_machine.place_file.Goals as goal

pub returns-in-Ok-clause-placed : goal.returns-in-Ok-clause-placed
unfolding ArePlaced
returns-in-Ok-clause-placed g c = (
  c.as_slice.result.now,
  subst (AreKnownAs (g.I.Inputs.file_bytes c.args.inputs.now c.args.memory.path.now)) (sym c.as_slice.ensures.value) c.in_ok-bytes.ensures.bytes,
  (own_memory c.place_bytes.new.machine.memory, c.in-Ok.ensures.placed, refl),
)

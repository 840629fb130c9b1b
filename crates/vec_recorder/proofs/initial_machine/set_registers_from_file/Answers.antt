use Rattle.std.proofs.Common.{subst, sym}
use Rattle.devices.specs.KnownBytes.{AreKnownAs}
use Rattle.vec_recorder.proofs.initial_machine.set_registers_from_file.Goals as goal

pub returns-in-Ok-clause-laid : goal.returns-in-Ok-clause-laid
returns-in-Ok-clause-laid g c = rw c.in-Some.is (
  c.as_slice.result.now,
  subst (AreKnownAs (g.I.Inputs.file_bytes c.args.inputs.now c.in-Some.path.now)) (sym c.as_slice.ensures.value) c.in_ok-text.ensures.bytes,
  c.in-Ok.ensures.laid,
)

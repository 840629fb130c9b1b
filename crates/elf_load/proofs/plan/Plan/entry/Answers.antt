use Rattle.elf_load.proofs.FaultLaws.{sound_headers}
use Rattle.elf_load.proofs.plan.Plan.entry.Goals as goal

pub entry-requires : goal.entry-requires
entry-requires c = (sound_headers c.self.inside.image.now c.self.invariant).file

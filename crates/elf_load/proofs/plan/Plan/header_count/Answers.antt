use Rattle.elf_load.proofs.FaultLaws.{sound_headers}
use Rattle.elf_load.proofs.plan.Plan.header_count.Goals as goal

pub header_count-requires : goal.header_count-requires
header_count-requires c = (sound_headers c.self.inside.image.now c.self.invariant).file

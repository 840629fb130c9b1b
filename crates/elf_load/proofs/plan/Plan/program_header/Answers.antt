use Rattle.std.proofs.Common.{ℕ, ◌<◌, List, sym, subst}
use Rattle.rv_model.specs.images.Fields.{header_count}
use Rattle.elf_load.proofs.FaultLaws.{sound_headers}
use Rattle.elf_load.proofs.plan.Plan.program_header.Goals as goal

pub program_header-requires-clause-file : goal.program_header-requires-clause-file
program_header-requires-clause-file c = (sound_headers c.self.inside.image.now c.self.invariant).file

pub program_header-requires-clause-table : goal.program_header-requires-clause-table
program_header-requires-clause-table c =
    (sound_headers c.self.inside.image.now c.self.invariant).table c.args.number
    (subst (λ (xs : List ℕ). c.args.number < header_count xs) (sym c.self.view_is) c.requires)

use Rattle.elf_load.proofs.CellLaws.{holds_its_cells, touches_what_it_covers}
use Rattle.elf_load.proofs.laws.image_laws.Goals as goal

pub returns : goal.returns
returns c = record { cells = holds_its_cells; pages = touches_what_it_covers }

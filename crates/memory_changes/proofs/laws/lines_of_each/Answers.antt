use Rattle.memory_changes.proofs.Each.{of_each}
use Rattle.memory_changes.proofs.laws.lines_of_each.Goals as goal

pub returns : goal.returns
returns c = of_each

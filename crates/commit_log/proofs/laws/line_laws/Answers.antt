use Rattle.commit_log.proofs.ControlsPrinted.{controls_are_printed}
use Rattle.commit_log.proofs.MemoryPrinted.{memory_is_printed}
use Rattle.commit_log.proofs.ScalarsPrinted.{scalars_are_printed}
use Rattle.commit_log.proofs.VectorsPrinted.{vectors_are_printed}
use Rattle.commit_log.proofs.laws.line_laws.Goals as goal

pub returns : goal.returns
returns c = record { scalars = scalars_are_printed; controls = controls_are_printed; memory = memory_is_printed; vectors = vectors_are_printed }

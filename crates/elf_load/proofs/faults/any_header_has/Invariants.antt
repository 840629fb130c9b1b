use Rattle.std.proofs.Common.{◌≡◌, false, length}
use Rattle.std.specs.List.{list_any}
use Rattle.elf_load.specs.Parts.{header_has}
use Rattle.elf_load.specs.Headers.{first_headers}
use Rattle.elf_load.proofs.faults.any_header_has.Given as goal

abbrev pub invariant-loop-number : goal.invariant-loop-number
invariant-loop-number l = list_any (header_has (length l.image) l.fault) (first_headers l.image l.number) ≡ false

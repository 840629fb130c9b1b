use Rattle.std.proofs.Common.{◌≡◌, false}
use Rattle.std.specs.List.{list_any}
use Rattle.elf_load.specs.Headers.{first_headers}
use Rattle.elf_load.specs.Pages.{grants}
use Rattle.elf_load.proofs.permissions.is_allowed_by.Given as goal

abbrev pub invariant-loop-number : goal.invariant-loop-number
invariant-loop-number l = list_any (grants l.flag l.page) (first_headers l.image l.number) ≡ false

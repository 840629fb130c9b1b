-- How a group's registers return to the register file when a loan ends.
use Rattle.std.specs.Prelude.{ℕ, List}
use Rattle.std.specs.Borrow.{Lends, MutBor, Fml, u8, Array}
use Rattle.rv_model.specs.contracts.vector.file.VFile.{the_row}
use Rattle.rv_model.specs.vector.Groups.{with_group}

-- when the loan ends, the registers from `first` on hold the bytes that were written through the borrow `group`
abbrev pub LendsGroup : MutBor (List ℕ) → ℕ → MutBor (List ℕ) → Fml
LendsGroup file first group = Lends the_row (Array u8 0) file group (λ written. with_group file.now first written)

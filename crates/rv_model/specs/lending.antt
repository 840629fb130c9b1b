-- Vocabulary of the contracts between functions of the crates. The other definitions don't depend on these modules:
-- `GroupBounds`: register groups that end inside the register file.
-- `Writes`: the elements and bits that are already written.
-- `Contiguous`: vector loads and stores that move one block of bytes.
-- `Accesses`, `Families`, `ListedBits` and `Search`: the vocabulary of decoders.
-- `OtherOperations`: vector operations without a row of their own in the manual's table.
-- `NameTable` and `Slots`: the vocabulary of an assembler.
-- `Text`: tokens and numbers of a line.
-- `Cells` and `Files`: bytes after a mutable borrow ends.
-- `Seats`: a vector state after its borrow ends.
-- `StoredMemory`: a memory as a stored value.
pub mod Accesses
pub mod Cells
pub mod Contiguous
pub mod Families
pub mod Files
pub mod GroupBounds
pub mod OtherOperations
pub mod ListedBits
pub mod NameTable
pub mod Search
pub mod Seats
pub mod Slots
pub mod StoredMemory
pub mod Text
pub mod Writes

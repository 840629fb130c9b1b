-- The instruction table, which gives the instruction of each 32-bit word. Modules, in reading order:
-- `FixedBits`: bit fields, and the name and fixed bits of each operation that isn't in `Operations`.
-- `Operations`: the operations of the manual's vector instruction table, and their second operand.
-- `Immediates`: the bits of immediates, and their 64-bit values.
-- `Table`: the bit positions of each instruction's operands, and the rows of the table.
-- `Types` and `Variants`: the types that these modules use.
pub mod FixedBits
pub mod Immediates
pub mod Operations
pub mod Table
pub mod Types
pub mod Variants

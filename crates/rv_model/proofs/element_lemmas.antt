-- Laws about elements. In this order, each module uses only modules before it: `Widths`, `Writes`, `Ranges`, `Reads`, `Sets`, `Bits`,
-- `ActiveElements`, `Packed`, `Arithmetic`, `Tails`, `KeptBits`, `Numbers`, `Rounding`.
pub mod ActiveElements
pub mod Arithmetic
pub mod Bits
pub mod KeptBits
pub mod Numbers
pub mod Packed
pub mod Ranges
pub mod Reads
pub mod Rounding
pub mod Sets
pub mod Tails
pub mod Widths
pub mod Writes

pub mod Blocks
pub mod MovedElements
pub mod PackedBits

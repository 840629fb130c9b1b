-- Laws about legality.
pub mod Accesses
pub mod Bounds
pub mod Meaning
pub mod Moves
pub mod Overlaps

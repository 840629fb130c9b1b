-- Laws about the vector state.
pub mod CellsMemory
pub mod Lengths

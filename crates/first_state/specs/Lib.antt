pub mod RegisterFile
pub mod Lines
pub mod Loaded
pub mod OwnMemory
pub mod Placed
pub mod Replaced

pub mod Agnostic
pub mod Arithmetic
pub mod InPlace
pub mod MemoryInstructions
pub mod Results
pub mod Steps

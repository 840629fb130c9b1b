pub mod ClosedFiles
pub mod MemoryFiles

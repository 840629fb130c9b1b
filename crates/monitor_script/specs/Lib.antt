pub mod EndedLines
pub mod FailedWrites
pub mod Feed

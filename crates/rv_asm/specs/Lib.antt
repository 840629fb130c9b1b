pub mod Places
pub mod Spans
pub mod TypeParts

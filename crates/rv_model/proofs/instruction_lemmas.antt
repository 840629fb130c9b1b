-- Laws about the instruction table: `Parts` and `Words` first, then `Rows`, `Scans` and `RoundTrips`.
pub mod Parts
pub mod RoundTrips
pub mod Rows
pub mod Scans
pub mod Words

pub mod Groups
pub mod Scan

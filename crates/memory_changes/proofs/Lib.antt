mod Each
mod Kept
pub mod Lists

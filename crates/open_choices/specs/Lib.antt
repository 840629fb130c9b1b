pub mod Fills
pub mod Groups
pub mod OpenStep
pub mod SeedLaws
pub mod Seeds

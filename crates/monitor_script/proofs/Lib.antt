pub mod DeviceLaws
pub mod EndedLaws
pub mod Feeding
pub mod LineBuffer
pub mod Prefixes
pub mod ReadsInTurn
pub mod Runs
pub use Rattle.devices.proofs.Moves

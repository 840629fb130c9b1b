-- Laws about machines and scripts: `EventLines` and `Grants` first, then `Headline`, then `Refusals`, `AbsentUsers`,
-- `ConfiguredUsers` and `Purge`.
pub mod AbsentUsers
pub mod Configurations
pub mod ConfiguredUsers
pub mod Cuts
pub mod EventLines
pub mod Grants
pub mod Headline
pub mod Purge
pub mod Refusals
pub mod Slices
pub mod Turns

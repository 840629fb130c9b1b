pub mod AccessTicks
pub mod Endings
pub mod FirstBytes
pub mod Uncut

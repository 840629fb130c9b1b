pub mod SetBits
pub mod FirstBits

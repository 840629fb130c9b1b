pub mod Table
pub mod Frames
pub mod Pool
pub mod Users
pub mod Translations

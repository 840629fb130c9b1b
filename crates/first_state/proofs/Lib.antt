pub mod LaidLines
pub mod Pages
pub mod Texts

pub mod Headers
pub mod Laws
pub mod Pages
pub mod Parts
pub mod Placing

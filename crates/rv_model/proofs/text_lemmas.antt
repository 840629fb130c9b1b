-- Laws about lines and digits.
pub mod Digits
pub mod Lines
pub mod Newlines
pub mod Pieces

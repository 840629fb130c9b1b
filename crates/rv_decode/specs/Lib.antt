pub mod Groups
pub mod Opcodes

-- Scalar instructions, as whole numbers (Unprivileged ISA 20191213). Read `Registers` first, then `Arithmetic`, `ControlTransfer` and
-- `LoadsAndStores` in any order.
pub mod Arithmetic
pub mod ControlTransfer
pub mod LoadsAndStores
pub mod Registers

mod ControlsPrinted
pub mod Destinations
pub mod Digits
mod FilledRegisters
mod Kept
mod LoadsPrinted
mod MemoryPrinted
mod Retired
mod ScalarsPrinted
pub mod Steps
mod VectorRegions
mod VectorsPrinted

pub mod DisassemblyLaws
pub mod PrintingLaws
pub mod RegisterLines

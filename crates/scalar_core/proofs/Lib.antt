-- Lemmas on the values of scalar instructions.
pub mod SignExtension

-- Cases of scalar instructions. tools/golden/golden_theorems writes this file from lab/tests/data/golden_vectors.
pub mod Branches
pub mod ControlRegisters
pub mod Scalars

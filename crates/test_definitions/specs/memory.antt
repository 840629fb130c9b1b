-- Cases of scalar and vector loads and stores. tools/golden/golden_theorems writes this file from lab/tests/data/golden_vectors.
pub mod Faults
pub mod Loads
pub mod ScalarAccesses
pub mod Stores

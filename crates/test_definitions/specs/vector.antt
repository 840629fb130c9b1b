-- Cases of vector operations and of the instructions that set the vector length and type. tools/golden/golden_theorems writes this file from lab/tests/data/golden_vectors.
pub mod FixedPoint
pub mod Masks
pub mod OneWidth
pub mod Permutations
pub mod Reductions
pub mod TwoWidths
pub mod VectorTypes

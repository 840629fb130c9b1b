-- Elements of vector registers, and the instructions that compute them. Modules, in reading order:
-- `Elements`: elements, mask bits, the elements that an instruction changes, and replaced elements and bits of registers.
-- `Formulas`: the result of each element-wise operation, as a whole number or a truth value.
-- `FixedPoint`, `Masks` and `Reductions`: the same for the manual's chapters of these names.
-- `Arithmetic`: the vector registers after an arithmetic instruction.
-- `PermutationResults`: the vector registers after a permutation.
-- `Bodies`: the body of each operation.
pub mod Arithmetic
pub mod Bodies
pub mod Elements
pub mod FixedPoint
pub mod Formulas
pub mod Masks
pub mod PermutationResults
pub mod Reductions

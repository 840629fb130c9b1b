-- Legality of vector instructions. Modules, in reading order:
-- `RegisterOperands`: operands as sets of register numbers, and the overlaps that are allowed.
-- `OperandShapes`: the operands of each shape of operation.
-- `Legality`: the legality of each instruction.
-- `Types`: the types that these modules use.
pub mod Legality
pub mod OperandShapes
pub mod RegisterOperands
pub mod Types

-- The vector state of a machine ("V" Vector Extension 1.0, sections 3 and 6). Modules, in reading order:
-- `Groups`: element widths, register groups, the vector length and type, and the bytes of registers.
-- `State`: the whole vector state.
-- `TypeRules`: the vector length and type after the vset instructions.
-- `TypeNames`: the names of the fields of vtype.
-- `RoundingModes`: the numbers of the rounding modes.
-- `ControlRegisters` and `Control`: the control registers, and their reads and writes.
-- `Types`: the types that these modules use.
pub mod Control
pub mod ControlRegisters
pub mod Groups
pub mod RoundingModes
pub mod State
pub mod TypeNames
pub mod TypeRules
pub mod Types

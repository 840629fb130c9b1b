-- Vector loads and stores. Modules, in reading order:
-- `Transfers`: lists of transfers between registers and memory, and the state after them.
-- `VectorAccess`: the transfers of each instruction.
-- `AccessRuns`: the state after an instruction, and how the instruction ends.
-- `Restarts`: instructions that stop before their end and restart from vstart.
-- `TransferBytes`: laws of the state after transfers, byte by byte.
pub mod AccessRuns
pub mod Restarts
pub mod TransferBytes
pub mod Transfers
pub mod VectorAccess

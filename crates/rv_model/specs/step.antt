-- One instruction of one machine. Modules, in reading order:
-- `Hart`: the state that instructions read and change, and how an instruction ends.
-- `WriteCall`: the system call that writes.
-- `ScalarStep`: scalar instructions.
-- `MemoryStep`: the state after vector loads and stores.
-- `Step`: vector instructions, the fetch of an instruction, and the use of the vector unit.
-- `Effects`: laws of all steps.
-- `Ticks`: laws of the ticks of steps.
-- `Resumes`: laws of instructions that are cut or fault and run again.
-- `Targets`, `Changes` and `AccessChanges`: the registers, elements and bytes that a step may change, and laws that it changes no others.
pub mod AccessChanges
pub mod Changes
pub mod Effects
pub mod Hart
pub mod MemoryStep
pub mod Resumes
pub mod ScalarStep
pub mod Step
pub mod Targets
pub mod Ticks
pub mod WriteCall

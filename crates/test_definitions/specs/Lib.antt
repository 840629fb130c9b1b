-- `ListLaws`: functions of the kit by index. `SliceBounds`: the instructions and ticks of slices and lines. `StepLaws`: steps of vector
-- instructions by their legality.
-- `States`: states, results, and when a case agrees. `Memories`: the memory of loads and stores. The others: the cases.
pub mod ListLaws
pub mod SliceBounds
pub mod StepLaws
pub mod States
pub mod Memories
pub mod Legality
pub mod memory
pub mod scalar
pub mod vector

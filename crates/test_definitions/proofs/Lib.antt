-- `Steps`: the step on a fetched word. `Lookups` and `Accesses`: loads and stores by the cells of a memory. `GoldenMemories`: a memory
-- with these cells. `ListLaws`: functions of the kit by index. `SliceBounds`: the instructions and ticks of slices and lines. `StepLaws`:
-- steps of vector instructions by their legality.
pub mod Accesses
pub mod GoldenMemories
pub mod ListLaws
pub mod Lookups
pub mod SliceBounds
pub mod StepLaws
pub mod Steps

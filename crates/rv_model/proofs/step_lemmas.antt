-- Laws about one instruction: the cuts of vector loads and stores, the ticks, and repeated execution. `Targets` and `Kept..`: registers
-- and memory that a step leaves unchanged.
pub mod Configurations
pub mod Cuts
pub mod Effects
pub mod FetchesResume
pub mod GoesOn
pub mod KeptAccesses
pub mod KeptElements
pub mod KeptSteps
pub mod LegalEnds
pub mod StepCases
pub mod StepTicks
pub mod StepsResume
pub mod StoredWords
pub mod Targets
pub mod Ticks
pub mod TicksTaken

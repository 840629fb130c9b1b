pub mod ChunkWrites
pub mod MagnitudesWithSigns
pub mod MaskBits
pub mod MaskBytes
pub mod MaskWords
pub mod SignedLanes
pub mod VectorLanes
pub mod WrappedNumbers

pub mod SecondElements
pub mod SimdOperations

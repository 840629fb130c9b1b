pub mod Folds
pub mod Laws
pub mod MovedLanes

pub mod LazyUnit
pub mod SaveAreas

pub mod LowBits
pub mod SomeActive
pub mod WiderNumbers

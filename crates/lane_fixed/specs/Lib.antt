pub mod WiderNumbers

-- Laws about memory.
pub mod Memory

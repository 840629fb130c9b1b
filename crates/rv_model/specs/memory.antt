-- A user's memory. Read `Sizes` first, with the page size and the number of pages, then `Memory`, with the byte at each address.
pub mod Memory
pub mod Sizes

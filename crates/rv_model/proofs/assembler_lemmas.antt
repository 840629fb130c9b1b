-- Laws about assembler text.
pub mod Found
pub mod Lines
pub mod ListedTexts
pub mod NamedOperands
pub mod NamedOperations
pub mod NamedWords
pub mod Naming
pub mod Operands
pub mod RowOfWord
pub mod Spellings
pub mod TextOperands

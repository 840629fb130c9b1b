-- Assembler text. Modules, in reading order:
-- `Tokens`: the tokens of a text.
-- `Numbers`: the value of one token.
-- `Slots`: the operand that a slot reads from tokens, and the text that it prints.
-- `Fields`: the bits of a slot's operand in the word.
-- `InstructionTexts`: the name and the slots of each instruction.
-- `Table`: the word that a text spells, and the canonical text of a word.
-- `Operands`: for a law only, the instruction fields that the slots hold.
pub mod Fields
pub mod InstructionTexts
pub mod Numbers
pub mod Operands
pub mod Slots
pub mod Table
pub mod Tokens

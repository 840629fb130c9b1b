-- Laws about the lines that commands print: no byte of a line is a newline. One file for each group, as in `specs/commands`.
-- `Commands`: a refused command changes nothing, and no other command prints a refusal.
pub mod Breakpoints
pub mod Commands
pub mod Memory
pub mod Operator
pub mod Printing
pub mod Programs
pub mod Refusals
pub mod Registers
pub mod Running

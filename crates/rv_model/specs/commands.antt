-- The commands of users and of the operator. The module of a group defines each of its commands completely: its arguments, refusals,
-- effects and output. Modules, in reading order:
-- `Arguments`: the value of one argument.
-- `Reading`: how a command reads its arguments in sequence.
-- `Printing`: the output that several commands share.
-- `Breakpoints`, `Entering`, `Memory`, `Programs`, `Registers` and `Running`: the groups of commands, in any order.
-- `Commands`: the command that a line spells, and its effect for any user.
-- `Operator`: the commands of the operator.
pub mod Arguments
pub mod Breakpoints
pub mod Commands
pub mod Entering
pub mod Memory
pub mod Operator
pub mod Printing
pub mod Programs
pub mod Reading
pub mod Registers
pub mod Running

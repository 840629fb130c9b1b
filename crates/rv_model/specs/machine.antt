-- Machines and scripts. Modules, in reading order:
-- `Setup`: the constants of a run.
-- `UserMachine`: one user's machine, the effects of commands and slices on it, and runs of instructions.
-- `Cuts`: consecutive slices, and the law that they add up.
-- `VectorUnit`: the one vector unit, as it is counted.
-- `World`: one user's private machine, and the private machines of all users.
-- `Grants`: the slices that the operator grants.
-- `Script`: the whole output of a script.
-- `Laws`: the laws that a user's output depends on that user's machine alone.
-- `Purge`: the law that the lines of other users can be removed from a script.
-- `Turns`: the law that slices in turn are fair.
-- `Refusals`: the law that a refusal changes nothing.
-- `AbsentUsers`: the law that absent users have no state in the vector unit.
-- `ConfiguredUsers`: the law that slices add up after any script.
-- `Examples`: a small script with its output.
pub mod AbsentUsers
pub mod ConfiguredUsers
pub mod Cuts
pub mod Examples
pub mod Grants
pub mod Laws
pub mod Purge
pub mod Refusals
pub mod Script
pub mod Setup
pub mod Turns
pub mod UserMachine
pub mod VectorUnit
pub mod World

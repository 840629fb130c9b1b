use Rattle.std.proofs.Common.{[]}
use Rattle.std.specs.FinMap.{empty}
use Rattle.monitor_machine.proofs.commands.execute_present.Goals as goal

-- the match arm of `Cmd::Registers`
pub invariant_of-parts-in-Registers : goal.invariant_of-parts-in-Registers
invariant_of-parts-in-Registers g c = record { settled = (c.execute-in-Registers.ensures.unit [] empty).settled }

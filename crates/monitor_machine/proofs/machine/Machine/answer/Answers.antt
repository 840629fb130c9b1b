use Rattle.std.proofs.Common.{◌-◌, length, drop, take, ap, ◌∙◌, sym}
use Rattle.rv_model.specs.commands.Operator.{operator_parse}
use Rattle.rv_model.specs.machine.Grants.{grants_of}
use Rattle.monitor_machine.specs.MachineState.{MachineState}
use Rattle.monitor_machine.proofs.GrantLaws.{eight_stay}
use Rattle.monitor_machine.proofs.machine.Machine.answer.Goals as goal

pub returns-in-Operator-clause-eight : goal.returns-in-Operator-clause-eight
returns-in-Operator-clause-eight g c =
    let setup = c.args.self.now.setup in
    let world = c.args.self.now.world in
    let eight = sym (ap (λ (m : MachineState). length m.world.parts) c.self.view_is) ∙ c.self.invariant in
    eight_stay setup world c.operator.new.self.world (grants_of setup world (operator_parse (take (length c.args.line.now - 2) (drop 2 c.args.line.now)))) c.operator.ensures.world eight

use Rattle.first_state.proofs.LaidLines.{lengths_laid, own_lengths, registers_laid, registers_refused}
use Rattle.first_state.proofs.registers.set_registers.Goals as goal

pub returns-in_default-configuration-clause-laid : goal.returns-in_default-configuration-clause-laid
returns-in_default-configuration-clause-laid g c =
    registers_refused c.args.text.now _ _ _ (own_lengths g.M.UserBytes.memory c.args.machine.now _ c.vl.ensures.value c.vtype.ensures.value)
    c.in_default.ensures.laid c.in_default-configuration.ensures

pub returns-clause-laid : goal.returns-clause-laid
returns-clause-laid g c =
    registers_laid c.args.text.now _ _ _ _ (own_lengths g.M.UserBytes.memory c.args.machine.now _ c.vl.ensures.value c.vtype.ensures.value)
    c.in_default.ensures.laid c.in-Some.ensures.0 (lengths_laid g.M.UserBytes.memory c.lay_lines.new.machine c.lay_lines.new.lengths c.in-Some.conf c.in-Some.ensures.1)

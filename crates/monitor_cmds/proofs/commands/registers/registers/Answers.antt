use Rattle.std.proofs.Common.{arith}
use Rattle.monitor_cmds.specs.Tag.{tag_byte}
use Rattle.monitor_cmds.proofs.RegisterLines.{register_lines_left_after_one}
use Rattle.monitor_cmds.proofs.commands.registers.registers.Goals as goal

pub loop-line-preserved : goal.loop-line-preserved
loop-line-preserved c = record {
  room = omega arith;
  text = register_lines_left_after_one (tag_byte c.args.tag) c.loop-line.line c.args.scalar.now _ _ _ c.loop-line-test.true c.push_register_line.ensures.text c.loop-line.invariant.text;
}

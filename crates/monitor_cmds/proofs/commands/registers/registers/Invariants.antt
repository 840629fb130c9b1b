use Rattle.std.proofs.Common.{◌≡◌, ◌++◌, ◌+◌, ◌-◌, ◌*◌, ◌≤◌, length}
use Rattle.rv_model.specs.commands.Registers.{register_lines, regs_lines}
use Rattle.rv_model.specs.text.Lines.{text}
use Rattle.monitor_cmds.specs.Tag.{tag_byte}
use Rattle.monitor_cmds.proofs.commands.registers.registers.Given as goal

abbrev pub invariant-loop-line : goal.invariant-loop-line
invariant-loop-line l = record {
  room : length l.reply ≤ length l.fn.reply + 22 + 158 * l.line;
  text : l.reply ++ text (tag_byte l.tag) (register_lines (8 - l.line) (4 * l.line) l.scalar) ≡ l.fn.reply ++ text (tag_byte l.tag) (regs_lines l.scalar);
}

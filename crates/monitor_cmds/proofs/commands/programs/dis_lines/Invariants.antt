use Rattle.std.proofs.Common.{◌≡◌, ◌++◌, ◌+◌, ◌*◌, ◌≤◌, length}
use Rattle.rv_model.specs.commands.Programs.{dis_lines}
use Rattle.rv_model.specs.text.Lines.{text}
use Rattle.monitor_cmds.specs.Tag.{tag_byte}
use Rattle.monitor_cmds.proofs.commands.programs.dis_lines.Given as goal

abbrev pub invariant-loop-index : goal.invariant-loop-index
invariant-loop-index l = record {
  room : length l.reply ≤ length l.fn.reply + 189 * l.index;
  text : l.reply ≡ l.fn.reply ++ text (tag_byte l.tag) (dis_lines l.addr l.index l.bytes);
}

use Rattle.std.proofs.Common.{arith, refl}
use Rattle.monitor_cmds.specs.Tag.{tag_byte}
use Rattle.monitor_cmds.proofs.DisassemblyLaws.{dis_lines_with_a_word_more}
use Rattle.monitor_cmds.proofs.commands.programs.dis_lines.Goals as goal

pub loop-index-preserved : goal.loop-index-preserved
loop-index-preserved c = record {
  room = omega arith;
  text = dis_lines_with_a_word_more (tag_byte c.args.tag) c.args.addr c.loop-index.index c.args.bytes.now _ _ _ _ _ refl c.word_in.ensures c.push_dis_line.ensures.text c.loop-index.invariant.text;
}

use Rattle.std.proofs.Common.{◌≡◌, ◌++◌, ◌+◌, ◌-◌, ◌*◌, ◌/◌, ◌≤◌, length}
use Rattle.std.specs.Prelude.{flat_map}
use Rattle.std.specs.List.{range_with_len}
use Rattle.rv_model.specs.commands.Registers.{element_text}
use Rattle.rv_model.specs.vector.Groups.{sew_bits}
use Rattle.monitor_cmds.proofs.commands.registers.push_elements.Given as goal

abbrev pub invariant-loop-index : goal.invariant-loop-index
invariant-loop-index l = record {
  room : length l.reply ≤ length l.fn.reply + 17 * l.index;
  text : l.reply ++ flat_map (element_text (sew_bits l.fn.width / 8) l.register) (range_with_len l.index (256 / sew_bits l.fn.width - l.index)) ≡ l.fn.reply ++ flat_map (element_text (sew_bits l.fn.width / 8) l.register) (range_with_len 0 (256 / sew_bits l.fn.width));
}

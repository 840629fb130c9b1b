use Rattle.std.proofs.Common.{◌≡◌, ◌++◌, ◌+◌, ◌-◌, ◌*◌, ◌≤◌, length}
use Rattle.std.specs.Prelude.{flat_map}
use Rattle.std.specs.List.{range_with_len}
use Rattle.rv_model.specs.commands.Operator.{listed_user}
use Rattle.rv_model.specs.machine.Setup.{users}
use Rattle.monitor_cmds.proofs.operator.push_users.Given as goal

abbrev pub invariant-loop-index : goal.invariant-loop-index
invariant-loop-index l = record {
  room : length l.reply ≤ length l.fn.reply + 29 * l.index;
  text : l.reply ++ flat_map (listed_user l.run_states) (range_with_len (l.index + 1) (8 - l.index)) ≡ l.fn.reply ++ flat_map (listed_user l.run_states) users;
}

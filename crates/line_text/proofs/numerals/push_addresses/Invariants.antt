use Rattle.std.proofs.Common.{◌≡◌, ◌++◌, ◌+◌, ◌*◌, length, drop}
use Rattle.std.specs.Prelude.{flat_map}
use Rattle.rv_model.specs.commands.Printing.{listed}
use Rattle.line_text.proofs.numerals.push_addresses.Given as goal

abbrev pub invariant-loop-addr : goal.invariant-loop-addr
invariant-loop-addr l = record {
  room : length l.reply ≡ length l.fn.reply + 17 * l.addr-index;
  text : l.reply ++ flat_map listed (drop l.addr-index l.addresses) ≡ l.fn.reply ++ flat_map listed l.addresses;
}

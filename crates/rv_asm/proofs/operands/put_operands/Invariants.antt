use Rattle.std.proofs.Common.{◌≡◌, ◌≤◌, ◌+◌, ◌*◌, ◌++◌, length, drop}
use Rattle.rv_model.specs.assembler.Table.{printed_operands}
use Rattle.rv_asm.proofs.operands.put_operands.Given as goal

abbrev pub invariant-loop-slot : goal.invariant-loop-slot
invariant-loop-slot l = record {
  room : length l.out.bytes + 16 * length l.slots ≤ 160 + 16 * l.slot-index;
  text : l.out.bytes ++ printed_operands (drop l.slot-index l.slots) l.word ≡ l.initial.out.bytes ++ printed_operands l.slots l.word;
}

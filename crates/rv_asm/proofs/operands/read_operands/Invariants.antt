use Rattle.std.proofs.Common.{◌≡◌, ◌≤◌, ◌<◌, ◌^◌, ◌+◌, length, drop}
use Rattle.rv_model.specs.assembler.Table.{read_operands}
use Rattle.rv_asm.specs.Places.{rest}
use Rattle.rv_asm.specs.Spans.{spans}
use Rattle.rv_asm.proofs.operands.read_operands.Given as goal

abbrev pub invariant-loop-slot : goal.invariant-loop-slot
invariant-loop-slot l = record {
  inside : l.at ≤ length l.text;
  fits : l.word + spans (drop l.slot-index l.slots) < 2 ^ 32;
  so_far : read_operands (length l.text + 1) l.word (drop l.slot-index l.slots) (rest l.text l.at) ≡ read_operands (length l.text + 1) l.bits l.slots (rest l.text l.start);
}

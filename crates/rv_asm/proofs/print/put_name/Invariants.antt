use Rattle.std.proofs.Common.{◌≡◌, ◌≤◌, ◌+◌, ◌++◌, length, drop}
use Rattle.rv_asm.proofs.print.put_name.Given as goal
use Rattle.rv_model.specs.lending.NameTable.{unpadded}

abbrev pub invariant-loop-byte : goal.invariant-loop-byte
invariant-loop-byte l = record {
  room : length l.out.bytes ≤ length l.initial.out.bytes + l.byte-index;
  text : l.out.bytes ++ unpadded (drop l.byte-index l.name) ≡ l.initial.out.bytes ++ unpadded l.name;
}

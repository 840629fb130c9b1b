use Rattle.std.proofs.Common.{◌≡◌, drop}
use Rattle.std.specs.List.{list_all}
use Rattle.monitor_machine.specs.NewFaults.{is_name_byte}
use Rattle.monitor_machine.proofs.new_fault.is_name.Given as goal

-- the rest of the list determines the result
abbrev pub invariant-loop-byte : goal.invariant-loop-byte
invariant-loop-byte l = list_all is_name_byte (drop l.byte-index l.bytes) ≡ list_all is_name_byte l.bytes

use Rattle.std.proofs.Common.{length, ◌-◌, ◌≡◌, ◌≤◌, take}
use Rattle.devices.proofs.writing.write_all.Given as goal

-- the sink has accepted the first `at` bytes
abbrev pub invariant-loop-at : goal.invariant-loop-at
invariant-loop-at g l = record {
  front : g.K.Sink.took l.fn.sink (take l.at l.bytes) l.sink;
  within : l.at ≤ length l.bytes;
  count : g.K.Sink.failures l.sink ≡ g.K.Sink.failures l.fn.sink;
}

abbrev pub decreases-loop-at : goal.decreases-loop-at
decreases-loop-at g l = length l.bytes - l.at

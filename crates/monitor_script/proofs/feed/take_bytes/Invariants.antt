use Rattle.std.proofs.Common.{◌≡◌, take}
use Rattle.monitor_script.specs.Feed.{fed}
use Rattle.monitor_script.proofs.feed.take_bytes.Given as goal

-- the bytes before the current index have been processed
abbrev pub invariant-loop-byte : goal.invariant-loop-byte
invariant-loop-byte g l = record {
  machine : l.machine ≡ (fed l.fn.machine l.fn.line (take l.byte-index l.bytes)).machine;
  setup : l.machine.setup ≡ l.fn.machine.setup;
  line : l.line ≡ (fed l.fn.machine l.fn.line (take l.byte-index l.bytes)).line;
  output : g.K.Sink.took l.fn.sink (fed l.fn.machine l.fn.line (take l.byte-index l.bytes)).output l.sink;
  failures : g.K.Sink.failures l.sink ≡ g.K.Sink.failures l.fn.sink;
}

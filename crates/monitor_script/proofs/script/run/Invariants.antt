use Rattle.std.proofs.Common.{◌≡◌, ℕ, List, []}
use Rattle.monitor_script.specs.Feed.{fed}
use Rattle.monitor_script.proofs.ReadsInTurn.{HasNoEnd}
use Rattle.monitor_script.proofs.Runs.{SoFar}
use Rattle.monitor_script.proofs.script.run.Given as goal

-- all bytes that the source returned before its end have been processed, and their output written
abbrev pub invariant-loop-count : goal.invariant-loop-count
invariant-loop-count g l = (front : List ℕ) × (record {
  gave : g.S.Source.gave l.fn.source front l.source;
  no_end : HasNoEnd g.S.Source.ended l.fn.source front l.source;
  so_far : SoFar l.fn.machine front l.machine l.line l.left;
  took : g.K.Sink.took l.fn.sink (fed l.fn.machine [] front).output l.sink;
  setup : l.machine.setup ≡ l.fn.machine.setup;
  read_failures : g.S.Source.failures l.source ≡ g.S.Source.failures l.fn.source;
  write_failures : g.K.Sink.failures l.sink ≡ g.K.Sink.failures l.fn.sink;
})

abbrev pub decreases-loop-count : goal.decreases-loop-count
decreases-loop-count g l = l.left

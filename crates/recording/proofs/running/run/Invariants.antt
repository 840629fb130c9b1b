use Rattle.std.proofs.Common.{◌≡◌, ◌-◌, List, flat_map}
use Rattle.rv_model.specs.step.Hart.{HartState}
use Rattle.recording.specs.Machines.{state_of}
use Rattle.recording.specs.Runs.{output_of, ran_by, run_by}
use Rattle.recording.proofs.Runs.{SoFar}
use Rattle.recording.proofs.running.run.Given as goal

-- the instructions so far are recorded, and the sink has their output
abbrev pub invariant-loop : goal.invariant-loop
invariant-loop g l = (seen : List HartState) × (record {
  so_far : SoFar g.R.Recorder.recorded (ran_by (g.C.Chooser.next l.fn.chooser) l.ticks (state_of g.M.UserBytes.memory l.fn.machine)) (run_by (g.C.Chooser.next l.chooser) (l.ticks - l.counter) l.left (state_of g.M.UserBytes.memory l.machine)) seen l.fn.recorder l.recorder;
  took : g.K.Sink.took l.fn.sink (flat_map output_of seen) l.sink;
  count : g.K.Sink.failures l.sink ≡ g.K.Sink.failures l.fn.sink;
  memory : l.machine.memory ≡ g.M.UserBytes.with_memory l.fn.machine.memory (g.M.UserBytes.memory l.machine.memory);
})

use Rattle.std.proofs.Common.{ℕ, ◌+◌, ◌-◌, ◌++◌, true, false, List, [], ◌∷◌, Some, ap, ◌∙◌, sym, refl, subst, arith}
use Rattle.devices.proofs.Moves.{moved, on_err}
use Rattle.rv_model.specs.step.Hart.{HartState}
use Rattle.recording.specs.Machines.{state_of}
use Rattle.recording.specs.Runs.{Run, begins, ran_by, run_by}
use Rattle.recording.proofs.Runs.{SoFar, all_recorded, all_put_out, failed_since, first_put_out, more_put_out, nothing_yet, one_more, run_begins, run_is, without_fuel, without_ticks}
use Rattle.recording.proofs.running.run.Goals as goal

pub loop-init : goal.loop-init
loop-init g c = (
  [],
  record {
    so_far = nothing_yet g.R.Recorder.recorded (g.C.Chooser.next c.args.chooser.now) (c.args.ticks - 0) c.args.ticks (state_of g.M.UserBytes.memory c.args.machine.now) c.args.recorder.now (omega arith)
        (g.met.R.Recorder.recorded_none c.args.recorder.now);
    took = g.met.K.Sink.took_none c.args.sink.now;
    count = refl;
    memory = sym (g.met.M.UserBytes.with_memory_same c.args.machine.now.memory);
  },
)

pub loop-preserved : goal.loop-preserved
loop-preserved g c =
    let s : HartState = state_of g.M.UserBytes.memory c.loop.machine in
    let seen : List HartState = c.loop.invariant.0 in
    let before = c.loop.invariant.1 in
    let n : ℕ = c.args.ticks - (c.loop.counter + 1) in
    let next : HartState = state_of g.M.UserBytes.memory c.advance.new.machine in
    let is = run_is (g.C.Chooser.next c.loop.chooser) (g.C.Chooser.next c.advance.new.chooser) (c.args.ticks - c.loop.counter) n c.loop.left (c.loop.left - 1) _ s next _ true
    (omega arith) (omega arith) c.in_ok-end.ensures.machine (sym c.goes_on.ensures ∙ c.if-not-goes_on.false) c.in_ok-end.ensures.next in (
      seen ++ s ∷ [],
      record {
        so_far = one_more g.R.Recorder.recorded g.met.R.Recorder.recorded_more _ _ (run_by (g.C.Chooser.next c.advance.new.chooser) n c.saturating_sub-left.result next) seen s c.args.recorder.now c.loop.recorder c.advance.new.recorder
            (is ∙ ap (λ (l : ℕ). begins s true c.in_ok-end.end next (run_by (g.C.Chooser.next c.advance.new.chooser) n l next)) (sym c.saturating_sub-left.ensures)) c.in_ok-end.ensures.recorded before.so_far;
        took = moved g.K.Sink.took _ _ _ _ (more_put_out seen s) (g.met.K.Sink.took_more _ _ _ _ _ before.took c.in_ok-end.ensures.output);
        count = c.in_ok-end.ensures.unfailed ∙ before.count;
        memory = c.advance.ensures.memory
            ∙ ap (λ m. g.M.UserBytes.with_memory m (g.M.UserBytes.memory c.advance.new.machine.memory)) before.memory
            ∙ g.met.M.UserBytes.with_memory_twice _ _ _;
      },
    )

-- return at an instruction that stops the program
pub returns-then-not-goes_on : goal.returns-then-not-goes_on
returns-then-not-goes_on g c =
    let s : HartState = state_of g.M.UserBytes.memory c.loop.machine in
    let seen : List HartState = c.loop.invariant.0 in
    let before = c.loop.invariant.1 in
    let n : ℕ = c.args.ticks - (c.loop.counter + 1) in
    let next : HartState = state_of g.M.UserBytes.memory c.advance.new.machine in
    let stops : Run = record { found = []; state = next; end = Some c.in_ok-end.end } in
    let is = run_is (g.C.Chooser.next c.loop.chooser) (g.C.Chooser.next c.advance.new.chooser) (c.args.ticks - c.loop.counter) n c.loop.left (c.loop.left - 1) _ s next _ false
    (omega arith) (omega arith) c.in_ok-end.ensures.machine (sym c.goes_on.ensures ∙ c.if-not-goes_on.true) c.in_ok-end.ensures.next in
    let so_far = one_more g.R.Recorder.recorded g.met.R.Recorder.recorded_more _ _ stops seen s c.args.recorder.now c.loop.recorder c.advance.new.recorder is c.in_ok-end.ensures.recorded before.so_far in
    record {
      recorded = all_recorded g.R.Recorder.recorded _ _ _ _ _ so_far refl;
      end = so_far.end;
      machine = so_far.state;
      output = moved g.K.Sink.took _ _ _ _ (more_put_out seen s ∙ all_put_out g.R.Recorder.recorded _ _ _ _ _ so_far refl)
          (g.met.K.Sink.took_more _ _ _ _ _ before.took c.in_ok-end.ensures.output);
      part = tt;
      failed = tt;
      memory = c.advance.ensures.memory
          ∙ ap (λ m. g.M.UserBytes.with_memory m (g.M.UserBytes.memory c.advance.new.machine.memory)) before.memory
          ∙ g.met.M.UserBytes.with_memory_twice _ _ _;
    }

-- return with an error
pub returns-in_err-end-clause-part : goal.returns-in_err-end-clause-part
returns-in_err-end-clause-part g c =
    let s : HartState = state_of g.M.UserBytes.memory c.loop.machine in
    let seen : List HartState = c.loop.invariant.0 in
    let before = c.loop.invariant.1 in
    let begun = run_begins (g.C.Chooser.next c.loop.chooser) (c.args.ticks - c.loop.counter) c.loop.left (c.args.ticks - (c.loop.counter + 1)) (c.loop.left - 1) s (omega arith) (omega arith) in
    on_err c.from_residual.result
    (first_put_out g.K.Sink.took g.met.K.Sink.took_more seen begun.0 _ s _ _ _ (ap (λ (l : List HartState). seen ++ l) (sym begun.1) ∙ before.so_far.found)
    before.took c.in_err-end.ensures.part)

pub returns-in_err-end-clause-failed : goal.returns-in_err-end-clause-failed
returns-in_err-end-clause-failed g c =
    let before = c.loop.invariant.1 in
    failed_since c.from_residual.result _ _ _ c.in_err-end.field-0.0 g.R.Recorder.failed c.advance.new.recorder before.count c.in_err-end.ensures.failed c.from_residual.ensures.1

-- return when no ticks are left
pub returns-then-left-eq0 : goal.returns-then-left-eq0
returns-then-left-eq0 g c =
    let s : HartState = state_of g.M.UserBytes.memory c.loop.machine in
    let before = c.loop.invariant.1 in
    let is = without_ticks (g.C.Chooser.next c.loop.chooser) (c.args.ticks - c.loop.counter) c.loop.left s c.if-left-eq0.true in
    let so_far = subst (λ (r : Run). SoFar g.R.Recorder.recorded (ran_by (g.C.Chooser.next c.args.chooser.now) c.args.ticks (state_of g.M.UserBytes.memory c.args.machine.now)) r c.loop.invariant.0 c.args.recorder.now c.loop.recorder) is before.so_far in
    record {
      recorded = all_recorded g.R.Recorder.recorded _ _ _ _ _ so_far refl;
      end = so_far.end;
      machine = so_far.state;
      output = moved g.K.Sink.took _ _ _ _ (all_put_out g.R.Recorder.recorded _ _ _ _ _ so_far refl) before.took;
      part = tt;
      failed = tt;
      memory = before.memory;
    }

pub returns : goal.returns
returns g c =
    let s : HartState = state_of g.M.UserBytes.memory c.loop.machine in
    let before = c.loop.invariant.1 in
    let is = without_fuel (g.C.Chooser.next c.loop.chooser) (c.args.ticks - c.loop.counter) c.loop.left s (omega arith) in
    let so_far = subst (λ (r : Run). SoFar g.R.Recorder.recorded (ran_by (g.C.Chooser.next c.args.chooser.now) c.args.ticks (state_of g.M.UserBytes.memory c.args.machine.now)) r c.loop.invariant.0 c.args.recorder.now c.loop.recorder) is before.so_far in
    record {
      recorded = all_recorded g.R.Recorder.recorded _ _ _ _ _ so_far refl;
      end = so_far.end;
      machine = so_far.state;
      output = moved g.K.Sink.took _ _ _ _ (all_put_out g.R.Recorder.recorded _ _ _ _ _ so_far refl) before.took;
      part = tt;
      failed = tt;
      memory = before.memory;
    }
